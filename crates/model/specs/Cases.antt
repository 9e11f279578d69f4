-- The starred cases of the specification as one table; worked runs of the four places where builds go
-- astray; runs that meet the refusals of make and of the calls; and one run cut at every store. All are proved in proofs/ by computation.
use Rattle.std.specs.Prelude.{ℕ, zero, suc, ◌+◌, ◌≡◌, Bool, true, false, ◌&&◌, ◌||◌, List, [], ◌∷◌, ◌++◌, map, length, replicate, take, drop, eqb}
use Rattle.basics.specs.Basics.{all, every, sum, is_in, from, basics, one_if}
use Rattle.block_bits.specs.Bits.{bits_of, number as number_of, bits_in, field}
use Rattle.block_forms.specs.Limits.{most_number}
use Rattle.block_forms.specs.Numbers.{num4, same}
use Rattle.block_forms.specs.Tuple.{Owner, committed, tentative, Tuple, is_tentative, owner_size, size}
use Rattle.block_forms.specs.Spell.{zeros, spell, bytes_of, padded as filled_up, block_of}
use Rattle.block_forms.specs.Block.{Block, header, page, committed_bit, owner_fields, payload_fields, record_fields, records_fields, entry_fields, encode_block}
use Rattle.block_forms.specs.Decode.{kind, spelled_by, read_header, header_in, read_owner, read_mark, read_tuple, record_length, is_record, read_tuples, page_table, page_count, page_level, page_spelled, page_in, read_entries, directory_count, directory_level, directory_in, decode_block}
use Rattle.image_rows.specs.Rows.{row_rules}
use Rattle.image.specs.View.{block_at, block_count, view}
use Rattle.image.specs.Stages.{Stage, refuses, holds, refusal_of, whole_blocks, block_ok, is_zero, directories_for, directory_blocks, unused_numbers, counts_ok, header_ok, header_test, entries_due, add_entries, read_directories, entries_ok, tested_entries, directory_test, page_ok, add_page, read_pages, rows_of_pages, tested_pages, page_test}
use Rattle.image.specs.Whole.{header_stage, pages_below, pages_stage}
use Rattle.model.specs.State.{Held, Page, idle, Store, Write, stored_bytes, Answer, refused, done, count, filled}
use Rattle.model.specs.Rules.{held_size, fresh, without_pending, joins, rules}
use Rattle.model.specs.Sight.{held, rows, is_foreign, versions, seen_of, seen}
use Rattle.model.specs.Transactions.{gives, unless, changed, open_call, replied, read_seen, read_call, listing, list_call, open_numbers, is_for, written_by, without, commit_call, abort_call, write_rules, place_rules}
use Rattle.model.specs.Checkpoint.{with_progress as stored_store, is_free, allocate, free_count, is_running, blocks_needed, begin_call, left_of, left, made, fill, storable, store_page, store_directory, header_for, store_header, step_of, step_at, bad_image, step_call, in_turn, run_call}
use Rattle.model.specs.Calls.{transact, effect, Call, transacts, begins, steps, runs, call, is_begin, effect_of, others, with_writer, writers, accepted, after_calls, had_written}
use Rattle.model.specs.Recover.{memory_for, put_block, image_after, fresh_store, make, made_image, loaded, reopened, recovered_store, recover_pages, recover_below, recover}
use Rattle.model.specs.Calls as calls
use Rattle.model.specs.CrashRecovery.{Logged, tag, log, is_header, landed, image_with, content}
use Rattle.model.specs.WellFormed.{WellFormed}

-- ---- runs of calls

-- a transaction opens
abbrev pub opens : ℕ → Call
opens tx = transacts (calls.opens tx)

-- it inserts, with table, key and payload
abbrev pub inserts : ℕ → ℕ → ℕ → List ℕ → Call
inserts tx t k bs = transacts (calls.inserts tx t k bs)

-- it replaces
abbrev pub replaces : ℕ → ℕ → ℕ → List ℕ → Call
replaces tx t k bs = transacts (calls.replaces tx t k bs)

-- it deletes
abbrev pub deletes : ℕ → ℕ → ℕ → Call
deletes tx t k = transacts (calls.deletes tx t k)

-- it commits
abbrev pub commits : ℕ → Call
commits tx = transacts (calls.commits tx)

-- it aborts
abbrev pub aborts : ℕ → Call
aborts tx = transacts (calls.aborts tx)

-- it reads, with a reply of that length
abbrev pub reads : ℕ → ℕ → ℕ → ℕ → Call
reads tx t k room = transacts (calls.reads tx t k room)

-- the open transactions are listed
abbrev pub lists : ℕ → Call
lists room = transacts (calls.lists room)

-- the answers of a list of calls
unfoldable pub answers : List Call → Store → List Answer
answers [] s = []
answers (c ∷ cs) s = let o = call c s in o.answer ∷ answers cs o.store

-- the block stores of a list of calls
unfoldable pub writes : List Call → Store → List Write
writes [] s = []
writes (c ∷ cs) s = let o = call c s in o.writes ++ writes cs o.store

-- how many tuples each page has, and its size
unfoldable pub shape : Store → List (ℕ × ℕ)
shape s = map (λ p. (length p.tuples, sum held_size p.tuples)) s.pages

-- n inserts by transaction 5 into table 0, of payloads of size bytes at the keys from k on
unfoldable pub many : ℕ → ℕ → ℕ → List Call
many k zero size = []
many k (suc n) size = inserts 5 0 k (replicate size 65) ∷ many (suc k) n size

-- the pages after these calls on an empty store of 16 blocks, N 64, in which transaction 5 is open
unfoldable pub after5 : List Call → List (ℕ × ℕ)
after5 cs = shape (after_calls (opens 5 ∷ cs) (fresh_store 16 64))

-- ---- the table

-- committed, with a payload of n bytes
unfoldable pub tuple : ℕ → Tuple
tuple n = record { key = 0; number = 0; owner = committed; mark = false; payload = replicate n 0 }

-- a page of k tuples of 42 bytes, and one of 42 + n
unfoldable pub sample_page : ℕ → ℕ → Page
sample_page k n = fresh 0 (map without_pending (replicate k (tuple 33) ++ tuple (33 + n) ∷ []))

-- ten tuples of 53 bytes are split 5 and 5; one of 13 + n more on the second page, from which transaction 6 takes its four again
unfoldable pub joining : ℕ → List Call
joining n =
    many 0 6 40 ++ (opens 6 ∷ inserts 6 0 6 (replicate 40 66) ∷ inserts 6 0 7 (replicate 40 66) ∷ inserts 6 0 8 (replicate 40 66)
    ∷ inserts 6 0 9 (replicate 40 66) ∷ many 10 1 n ++ (aborts 6 ∷ []))

-- a clean page of one tuple in block b
unfoldable pub clean_page : ℕ → Page
clean_page b =
    record { table = 0; block = b; frozen = false; tuples = without_pending (record { key = b; number = b; owner = committed; mark = false; payload = [] }) ∷ [] }

-- A store of 512 blocks with p clean pages of one tuple each. (It is written down and shown to be well formed, since a run that comes to
-- so many pages is too long for the prover to compute.)
unfoldable pub clean : ℕ → Store
clean p =
    record {
      blocks = 512;
      capacity = 1024;
      level = 1;
      next = suc p;
      pages = map clean_page (from 1 p);
      active = [];
      used = λ b. is_in b (from 1 p);
      taken = p;
      checkpoint = idle;
    }

-- open 5, insert table 0, key 7, payload 41 42; checkpoint
unfoldable pub booking : List Call
booking = opens 5 ∷ inserts 5 0 7 (0x41 ∷ 0x42 ∷ []) ∷ begins ∷ runs 9 8192 ∷ []

-- the bytes that its page block starts with: the page's head and its record
unfoldable pub booking_bytes : List ℕ
booking_bytes =
    0x20 ∷ 0x08 ∷ 0x3C ∷ 0x00 ∷ 0x00 ∷ 0x00 ∷ 0x04 ∷ 0x00
    ∷ 0x00 ∷ 0x00 ∷ 0x00 ∷ 0x07 ∷ 0x00 ∷ 0x00 ∷ 0x00 ∷ 0x00 ∷ 0x02 ∷ 0x00 ∷ 0x50 ∷ 0x00 ∷ 0x00 ∷ 0x41 ∷ 0x42 ∷ []

-- the block is spelled by these bytes and then k zeros
unfoldable pub spelled : Block → List ℕ → ℕ → Bool
spelled x xs k = same (encode_block x) (xs ++ zeros k)

-- the first block store goes to that block and spells these bytes and then zeros
unfoldable pub first_spells : List Write → ℕ → List ℕ → ℕ → Bool
first_spells [] at xs k = false
first_spells (w ∷ ws) at xs k = eqb w.at at && spelled w.what xs k

-- what the rules and the block forms give, and what the specification says, in its order
pub record Cases : Type 0 where
  -- empty store, 16 blocks, N 8: header 10 08 00 80, then zeros. As a block, and as make writes it
  pub empty_block : spelled (header (header_for (fresh_store 16 8) 0 0 0 [])) (0x10 ∷ 0x08 ∷ 0x00 ∷ 0x80 ∷ []) 508 ≡ true
  pub empty_header : same (made_image (replicate 8192 0xFF) 8) (0x10 ∷ 0x08 ∷ 0x00 ∷ 0x80 ∷ zeros 508 ++ replicate 7680 0xFF) ≡ true
  -- ten tentative payloads of 40: 530 bytes, split 5 and 5; nine: 477, no split
  pub ten : after5 (many 0 10 40) ≡ (5, 265) ∷ (5, 265) ∷ []
  pub nine : after5 (many 0 9 40) ≡ (9, 477) ∷ []
  -- 504 stays, 505 splits
  pub stays : after5 (many 0 9 40 ++ many 9 1 14) ≡ (10, 504) ∷ []
  pub splits : after5 (many 0 9 40 ++ many 9 1 15) ≡ (5, 265) ∷ (5, 240) ∷ []
  -- sum 336 joins, 337 does not. As the rule says of two pages, and after the removals of an abort
  pub joins_336 : joins (sample_page 3 0) (sample_page 3 0) ≡ true
  pub joins_337 : joins (sample_page 3 0) (sample_page 3 1) ≡ false
  pub joined_336 : after5 (joining 5) ≡ (7, 336) ∷ []
  pub apart_337 : after5 (joining 6) ≡ (5, 265) ∷ (2, 72) ∷ []
  -- frozen nine, ten more pending: 1,007 at thaw, pages of 5, 5, 9
  pub frozen_nineteen : after5 (many 10 9 40 ++ (begins ∷ many 20 10 40)) ≡ (19, 1007) ∷ []
  pub thawed : after5 (many 10 9 40 ++ (begins ∷ many 20 10 40 ++ (steps 8192 ∷ []))) ≡ (5, 265) ∷ (5, 265) ∷ (9, 477) ∷ []
  -- 336 pages, none frozen: 2 stores; 337: 3; empty: 1. As begin answers, and then a run that makes them all
  pub well_336 : WellFormed (clean 336)
  pub stores_336 : answers (begins ∷ runs 9 262144 ∷ []) (clean 336) ≡ count 2 ∷ count 2 ∷ []
  pub well_337 : WellFormed (clean 337)
  pub stores_337 : answers (begins ∷ runs 9 262144 ∷ []) (clean 337) ≡ count 3 ∷ count 3 ∷ []
  pub stores_empty : answers (begins ∷ runs 9 8192 ∷ []) (fresh_store 16 8) ≡ count 1 ∷ count 1 ∷ []
  -- open 5, insert table 0, key 7, payload 41 42 into the 16-block store; checkpoint: page block 1 starts 20 08 3C 00 00 00 04 00 and
  -- its record is 00 00 00 07 00 00 00 00 02 00 50 00 00 41 42. As a block, and as the step writes it
  pub booking_block : spelled (page 0 1 (record { key = 7; number = 0; owner = tentative 5 0; mark = false; payload = 0x41 ∷ 0x42 ∷ [] } ∷ [])) booking_bytes 489 ≡ true
  pub booking_answers : answers booking (fresh_store 16 8) ≡ done ∷ done ∷ count 3 ∷ count 3 ∷ []
  pub booking_bytes : first_spells (writes booking (fresh_store 16 8)) 1 booking_bytes 489 ≡ true

-- ---- where builds go astray, one worked run each; a direct commit, a read and a list

-- 39 tuples of 13 bytes; two of the first page are removed, and then the others are committed: two pages of 9 bytes a tuple
unfoldable pub committed_all : List Call
committed_all = opens 6 ∷ inserts 6 0 0 [] ∷ inserts 6 0 1 [] ∷ (many 2 37 0 ++ (aborts 6 ∷ commits 5 ∷ []))

-- open 5, insert table 0, key 7, payload 41 42; read it; list
unfoldable pub reading : List Call
reading = opens 5 ∷ inserts 5 0 7 (0x41 ∷ 0x42 ∷ []) ∷ reads 5 0 7 9 ∷ lists 9 ∷ []

-- the pages of what recovery gives
unfoldable pub shape_of : Stage Store → List (ℕ × ℕ)
shape_of (refuses n) = []
shape_of (holds s) = shape s

-- power fails after these calls on an empty store of 16 blocks, N 64: what recovery gives
unfoldable pub recovered_after : List Call → Stage Store
recovered_after cs = recover (memory_for 64) (image_after (writes cs (fresh_store 16 64)) (made_image (replicate 8192 0xFF) 64))

-- the answers of a list of calls on what recovery gives
unfoldable pub answers_in : Stage Store → List Call → List Answer
answers_in (refuses n) cs = refused n ∷ []
answers_in (holds s) cs = answers cs s

-- where the block stores of these calls go in a store of b blocks
unfoldable pub places : List Call → ℕ → List ℕ
places cs b = map (λ w. w.at) (writes cs (fresh_store b 64))

-- nine tuples, checkpointed; while the next checkpoint runs, which has a dirty page of table 1, a tenth splits their clean page
unfoldable pub split_meanwhile : List Call
split_meanwhile =
    opens 5 ∷ (many 0 9 40 ++ (begins ∷ runs 9 8192 ∷ inserts 5 1 0 [] ∷ begins ∷ (many 9 1 40 ++ (runs 9 8192 ∷ []))))

-- a tentative tuple's page is frozen; its transaction commits before the page's store
unfoldable pub commit_meanwhile : List Call
commit_meanwhile = opens 5 ∷ inserts 5 0 7 (0x41 ∷ []) ∷ begins ∷ commits 5 ∷ steps 8192 ∷ []

-- the tuple that it stores
unfoldable pub committed_late : Owner → Tuple
committed_late o = record { key = 7; number = 0; owner = o; mark = false; payload = 0x41 ∷ [] }

-- three checkpoints of two pages: of both, of the second, of the first, whose block is the next that the search meets
unfoldable pub three_times : ℕ → List Call
three_times len =
    opens 5 ∷ inserts 5 0 7 [] ∷ inserts 5 1 7 [] ∷ begins ∷ runs 9 len ∷ inserts 5 1 8 [] ∷ begins ∷ runs 9 len
    ∷ inserts 5 0 8 [] ∷ begins ∷ runs 9 len ∷ []

-- three checkpoints of one page, which is dirty at each
unfoldable pub one_again : ℕ → List Call
one_again len =
    opens 5 ∷ inserts 5 0 7 [] ∷ begins ∷ runs 9 len ∷ inserts 5 0 8 [] ∷ begins ∷ runs 9 len ∷ inserts 5 0 9 [] ∷ begins ∷ runs 9 len ∷ []

-- two frozen pages of five committed tuples of 49 bytes; four of the first and one of the second are deleted
unfoldable pub both_frozen : List Call
both_frozen =
    many 0 10 40 ++ (commits 5 ∷ begins ∷ opens 6 ∷ deletes 6 0 0 ∷ deletes 6 0 1 ∷ deletes 6 0 2 ∷ deletes 6 0 3 ∷ deletes 6 0 9 ∷ commits 6 ∷ [])

-- what the runs above give
pub record Traps : Type 0 where
  -- the pages at the end are not those listed: the page that was clean at begin is listed whole, with the block that it had
  pub at_the_end : shape (after_calls split_meanwhile (fresh_store 16 64)) ≡ (5, 265) ∷ (5, 265) ∷ (1, 13) ∷ []
  pub as_at_begin : shape_of (recovered_after split_meanwhile) ≡ (9, 477) ∷ (1, 13) ∷ []
  pub listed_blocks : places split_meanwhile 16 ≡ 1 ∷ 2 ∷ 0 ∷ 3 ∷ 4 ∷ 0 ∷ []
  -- a pending commit is written as tentative, and is applied when the page is thawed
  pub written_tentative : writes commit_meanwhile (fresh_store 16 64) ≡ record { at = 1; what = page 0 1 (committed_late (tentative 5 0) ∷ []) } ∷ []
  pub thawed_committed : held (after_calls commit_meanwhile (fresh_store 16 64)).pages ≡ (0, committed_late committed) ∷ []
  -- a replaced page's block is free only when the header has landed
  pub not_reused : places (three_times 3072) 6 ≡ 1 ∷ 2 ∷ 3 ∷ 0 ∷ 4 ∷ 5 ∷ 0 ∷ 2 ∷ 3 ∷ 0 ∷ []
  pub no_room : answers (three_times 2560) (fresh_store 5 64)
      ≡ done ∷ done ∷ done ∷ count 4 ∷ count 4 ∷ done ∷ refused 20 ∷ refused 18 ∷ done ∷ refused 20 ∷ refused 18 ∷ []
  -- the search goes on after the block last taken, and wraps to 1
  pub wraps : places (one_again 2560) 5 ≡ 1 ∷ 2 ∷ 0 ∷ 3 ∷ 4 ∷ 0 ∷ 1 ∷ 2 ∷ 0 ∷ []
  -- a thawed page of 49 bytes is not joined with its frozen neighbour of 245; when that is thawed too, they are joined
  pub frozen_both : after5 both_frozen ≡ (5, 245) ∷ (5, 245) ∷ []
  pub not_joined : after5 (both_frozen ++ (steps 8192 ∷ [])) ≡ (1, 49) ∷ (5, 245) ∷ []
  pub joined_later : after5 (both_frozen ++ (steps 8192 ∷ steps 8192 ∷ [])) ≡ (5, 245) ∷ []
  -- direct commit never joins, though the sum is 333 then
  pub commit_alone : after5 committed_all ≡ (18, 162) ∷ (19, 171) ∷ []
  -- a read answers the length and fills in the payload; a list answers how many, and two bytes for each, high byte first
  pub reading_answers : answers reading (fresh_store 16 8) ≡ done ∷ done ∷ filled 2 (0x41 ∷ 0x42 ∷ []) ∷ filled 1 (0 ∷ 5 ∷ []) ∷ []

-- ---- refusals: runs that meet those of make and of the calls (20 is met above), and where two tests hold, the one that comes first

-- on an empty store of 16 blocks, N 2
unfoldable pub refused_calls : List Call
refused_calls =
    opens 4096 ∷ opens 5 ∷ opens 5 ∷ opens 6
    ∷ inserts 4096 8 7 [] ∷ inserts 7 8 7 [] ∷ inserts 5 8 7 (replicate 41 0) ∷ inserts 5 7 7 (replicate 41 0) ∷ inserts 5 7 7 (0x41 ∷ [])
    ∷ inserts 6 7 7 [] ∷ replaces 6 7 7 [] ∷ inserts 5 7 7 [] ∷ reads 6 7 7 9 ∷ reads 5 7 7 0 ∷ deletes 5 7 8
    ∷ deletes 5 7 7 ∷ reads 5 7 7 9 ∷ inserts 5 7 7 [] ∷ inserts 6 0 0 [] ∷ lists 3 ∷ commits 7 ∷ aborts 4096
    ∷ steps 8192 ∷ runs 0 8192 ∷ begins ∷ begins ∷ steps 8191 ∷ runs 0 8191 ∷ []

-- a store at its last level and its last number
unfoldable pub last_store : Store
last_store =
    record { blocks = 16; capacity = 2; level = most_number; next = most_number; pages = []; active = []; used = λ b. false; taken = 0; checkpoint = idle }

-- what the runs above give
pub record Refusals : Type 0 where
  pub calls : answers refused_calls (fresh_store 16 2)
      ≡ refused 6 ∷ done ∷ refused 8 ∷ done
      ∷ refused 6 ∷ refused 7 ∷ refused 10 ∷ refused 11 ∷ done
      ∷ refused 12 ∷ refused 12 ∷ refused 13 ∷ refused 14 ∷ refused 21 ∷ refused 14
      ∷ done ∷ refused 14 ∷ refused 15 ∷ refused 15 ∷ refused 21 ∷ refused 7 ∷ refused 6
      ∷ refused 18 ∷ refused 18 ∷ count 3 ∷ refused 17 ∷ refused 5 ∷ refused 5 ∷ []
  -- 64 are open: no other, and one of them is open already
  pub crowded : answers (map opens (from 0 64) ++ (opens 64 ∷ opens 0 ∷ [])) (fresh_store 16 2) ≡ replicate 64 done ++ (refused 9 ∷ refused 8 ∷ [])
  -- the last number is not given, and the last level is not left
  pub last_numbers : answers (opens 5 ∷ inserts 5 0 0 [] ∷ begins ∷ []) last_store ≡ done ∷ refused 16 ∷ refused 19 ∷ []
  -- an image of 512 bytes, of no whole blocks; N 0 and 1,025; memory one byte too short, and just long enough
  pub makes : map refusal_of (make 512 0 0 ∷ make 8191 0 0 ∷ make 8192 0 0 ∷ make 8192 0 1025 ∷ make 8192 1151 1 ∷ make 8192 1152 1 ∷ []) ≡ 1 ∷ 1 ∷ 2 ∷ 2 ∷ 3 ∷ 0 ∷ []

-- ---- one run cut at every store

-- an owner as numbers
unfoldable pub owner_numbers : Owner → List ℕ
owner_numbers committed = 0 ∷ []
owner_numbers (tentative t n) = 1 ∷ t ∷ n ∷ []

-- a tuple with all its fields
unfoldable pub tuple_numbers : Tuple → List ℕ
tuple_numbers x = x.key ∷ x.number ∷ one_if x.mark ∷ length x.payload ∷ (x.payload ++ owner_numbers x.owner)

-- the tuples of a page, in order
unfoldable pub held_numbers : List Held → List ℕ
held_numbers [] = []
held_numbers (h ∷ hs) = tuple_numbers h.tuple ++ held_numbers hs

-- the pages as they are compared, each with its table and how many tuples it has
unfoldable pub page_numbers : List Page → List ℕ
page_numbers [] = []
page_numbers (p ∷ ps) = p.table ∷ length p.tuples ∷ (held_numbers p.tuples ++ page_numbers ps)

-- what is recovered has the pages and the next number of s, and the transactions ws are open
unfoldable pub agrees : Stage Store → Store → List ℕ → Bool
agrees (refuses n) s ws = false
agrees (holds r) s ws =
    every (
    same (page_numbers r.pages) (page_numbers s.pages)
    ∷ eqb r.next s.next
    ∷ all (λ tx. is_in tx ws) (open_numbers r.active)
    ∷ all (λ tx. is_in tx (open_numbers r.active)) ws
    ∷ [])

-- recovery of the image gives what the run of the calls base from s had
unfoldable pub recovers_to : Store → List Call → List ℕ → Bool
recovers_to s base img = agrees (recover (memory_for s.capacity) img) (after_calls base s) (had_written base s (open_numbers s.active))

-- what a cut store may leave: the bytes of the header; the new block's first bytes over the old one's
unfoldable pub tears : List ℕ → Logged → List (List ℕ)
tears img w = block_at img 0 ∷ (take 200 (stored_bytes w.write) ++ drop 200 (block_at img w.write.at)) ∷ []

-- power fails before this store, or it is cut
unfoldable pub cut_here : Store → List ℕ → List Call → Logged → Bool
cut_here s img base w =
    recovers_to s base img
    && (is_header w || all (λ xs. recovers_to s base (put_block img w.write.at xs)) (tears img w))

-- every cut of the stores ws
unfoldable pub cut_everywhere : Store → List ℕ → List Call → List Logged → Bool
cut_everywhere s img base [] = recovers_to s base img
cut_everywhere s img base (w ∷ ws) = cut_here s img base w && cut_everywhere s (image_with img w) (landed w base) ws

-- two checkpoints and the start of a third, with inserts, replaces, deletes and commits between their stores
unfoldable pub script : List Call
script =
    opens 5 ∷ opens 6 ∷ (many 10 9 40 ++ (inserts 6 1 7 (1 ∷ 2 ∷ []) ∷ begins ∷ many 20 10 40
    ++ (steps 8192 ∷ replaces 6 1 7 (3 ∷ []) ∷ commits 6 ∷ runs 2 8192 ∷ deletes 5 0 12 ∷ commits 5 ∷ runs 9 8192
    ∷ begins ∷ opens 7 ∷ deletes 7 0 11 ∷ replaces 7 0 13 [] ∷ runs 2 8192 ∷ commits 7 ∷ runs 9 8192 ∷ begins ∷ runs 1 8192 ∷ [])))

-- its block stores
unfoldable pub script_log : List Logged
script_log = log [] [] (fresh_store 16 64) script

-- the run makes eleven stores, and wherever they are cut, recovery gives what it must
pub record Cuts : Type 0 where
  pub stores : length script_log ≡ 11
  pub everywhere : cut_everywhere (fresh_store 16 64) (made_image (replicate 8192 0xFF) 64) [] script_log ≡ true

-- unfolds all definitions that the cases compute with: `unfolding cases`
unfoldable pub cases : ℕ
unfolding basics bits_of number_of bits_in field num4 same is_tentative owner_size size spell bytes_of filled_up block_of committed_bit owner_fields payload_fields record_fields records_fields entry_fields encode_block kind spelled_by read_header header_in read_owner read_mark read_tuple record_length is_record read_tuples page_table page_count page_level page_spelled page_in read_entries directory_count directory_level directory_in decode_block row_rules block_at block_count view whole_blocks block_ok is_zero directories_for directory_blocks unused_numbers counts_ok header_ok header_test entries_due add_entries read_directories entries_ok tested_entries directory_test page_ok add_page read_pages rows_of_pages tested_pages page_test header_stage pages_below pages_stage rules held rows is_foreign versions seen_of seen gives unless changed open_call replied read_seen read_call listing list_call write_rules place_rules open_numbers is_for written_by without others commit_call abort_call stored_store is_free allocate free_count is_running blocks_needed begin_call left_of left made fill storable store_page store_directory header_for store_header step_of step_at bad_image step_call in_turn run_call transact effect call is_begin effect_of with_writer writers accepted after_calls had_written put_block fresh_store make made_image loaded reopened recovered_store recover_pages recover_below recover tag log is_header landed image_with content answers writes shape many after5 tuple sample_page joining clean_page clean booking booking_bytes spelled first_spells committed_all reading image_after shape_of recovered_after answers_in places split_meanwhile commit_meanwhile committed_late three_times one_again both_frozen refused_calls last_store refusal_of owner_numbers tuple_numbers held_numbers page_numbers agrees recovers_to tears cut_here cut_everywhere script script_log
cases = 0
