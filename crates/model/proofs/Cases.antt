-- The table of cases, by computation; and that the stores of many pages are well formed.
use Rattle.basics.proofs.Kit.{◌≡◌, refl, true, false, [], map, ℕ, suc, ◌+◌, ◌≤◌, ◌<◌, zero, eqb, arith}
use Rattle.basics.specs.Basics.{if'◌then◌else◌, any, all, every, how_many, is_in, distinct, from}
use Rattle.basics.proofs.Facts.{by, lie}
use Rattle.block_forms.specs.Tuple.{AllFit}
use Rattle.image_rows.specs.Rows.{rows_of, rows_ok}
use Rattle.model.specs.Rules.{without_pending, is_frozen}
use Rattle.model.specs.Sight.{held, rows}
use Rattle.model.specs.Transactions.{open_numbers}
use Rattle.model.specs.WellFormed.{is_before, held_ok, settled_ok, frozen_ok, page_well, dirty_or, owner_in, open_ok, WellFormed}
use Rattle.model.specs.Cases.{clean_page, clean, Cases, cases}
use Rattle.basics.proofs.Elements.{eqb-true, in_all}
use Rattle.basics.proofs.Firsts.{all_from}

many_below : (b a n : ℕ) → b < a → how_many (λ p. eqb b p.block) (map clean_page (from a n)) ≡ 0
unfolding how_many from clean_page if'◌then◌else◌
many_below b a zero h = refl
many_below b a (suc n) h = by (eqb b a) (λ e. absurd (omega (arith, h, eqb-true b a e))) (λ e. rw e (many_below b (suc a) n (omega arith)))

once_each : (b a n : ℕ) → how_many (λ p. eqb b p.block) (map clean_page (from a n)) ≤ 1
unfolding how_many from clean_page if'◌then◌else◌
once_each b a zero = omega arith
once_each b a (suc n) = by (eqb b a) (λ e. rw e (omega (arith, many_below b (suc a) n (omega (arith, eqb-true b a e))))) (λ e. rw e (once_each b (suc a) n))

all_fit : (a n : ℕ) → a + n < 4294967296 → AllFit (map (λ r. r.1) (held (map clean_page (from a n))))
unfolding held rows_of from clean_page without_pending
all_fit a zero h = tt
all_fit a (suc n) h = (record { key = omega arith; number = omega arith; owner = tt; payload = omega arith; bytes = tt }, all_fit (suc a) n (omega arith))

-- what can be computed of a store with p clean pages
record Computed (p : ℕ) : Type 0 where
  few : p < 512
  tuples : held_ok 1024 (suc p) (held (clean p).pages) ≡ true
  live : rows_ok 1024 (suc p) (rows (clean p).pages) ≡ true
  pages : all page_well (clean p).pages ≡ true
  blocks : all (dirty_or (clean p).used) (clean p).pages ≡ true
  owners : all (λ r. owner_in [] r.1.owner) (rows (clean p).pages) ≡ true
  still : any is_frozen (clean p).pages ≡ false

-- by computation
computed_336 : Computed 336
unfolding cases is_before held_ok settled_ok frozen_ok page_well dirty_or owner_in
computed_336 = record { few = omega arith; tuples = refl; live = refl; pages = refl; blocks = refl; owners = refl; still = refl }

computed_337 : Computed 337
unfolding cases is_before held_ok settled_ok frozen_ok page_well dirty_or owner_in
computed_337 = record { few = omega arith; tuples = refl; live = refl; pages = refl; blocks = refl; owners = refl; still = refl }

clean_well : (p : ℕ) → Computed p → WellFormed (clean p)
unfolding clean open_numbers open_ok distinct all every is_in any
clean_well p c =
    record {
      blocks = (omega arith, omega arith);
      capacity = (omega arith, omega arith);
      level = omega arith;
      next = omega (arith, c.few);
      tuples = c.tuples;
      fields = all_fit 1 p (omega (arith, c.few));
      live = c.live;
      owners = c.owners;
      opened = refl;
      counts = λ tx h. lie h;
      pages = c.pages;
      clean = c.blocks;
      apart = λ b l. once_each b 1 p;
      used = λ b h. let q = in_all (λ d. (1 ≤ d) × (d < 1 + p)) b (from 1 p) h (all_from 1 p) in (q.0, omega (arith, q.1, c.few));
      taken = c.few;
      checkpoint = c.still;
    }

pub cases_hold : Cases
unfolding cases
cases_hold = record {
  empty_block = refl;
  empty_header = refl;
  ten = refl;
  nine = refl;
  stays = refl;
  splits = refl;
  joins_336 = refl;
  joins_337 = refl;
  joined_336 = refl;
  apart_337 = refl;
  frozen_nineteen = refl;
  thawed = refl;
  well_336 = clean_well 336 computed_336;
  stores_336 = refl;
  well_337 = clean_well 337 computed_337;
  stores_337 = refl;
  stores_empty = refl;
  booking_block = refl;
  booking_answers = refl;
  booking_bytes = refl;
}
