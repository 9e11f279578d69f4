-- A fresh store: over any old content, zeros in the head but for three numbers, and no block in use.
use Rattle.image.specs.Stages.{capacity_limit}
use Rattle.block_forms.specs.Limits.{block_limit}
use Rattle.basics.proofs.Kit.{subst, ◌≡◌, refl, ap, ◌∙◌, true, not, some, List, ℕ, ◌+◌, ◌*◌, ◌≤◌, ◌<◌, eqb, length, get_or, length-replicate, replicate, le-ltb, arith}
use Rattle.basics.specs.Basics.{if'◌then◌else◌, all}
use Rattle.model.specs.Recover.{fresh_store}
use Rattle.memory_bytes.specs.Bytes.{le2, le4, bytes4, Apart, Wrote}
use Rattle.basics.specs.Lists.{tab}
use Rattle.memory_bytes.proofs.Bytes.{le4_below, le4_wrote}
use Rattle.memory_layout.specs.Places.{signature, head_size, opens_at, refs_at, used_at, used_size}
use Rattle.memory_layout.specs.Views.{head_of, counts_of, table_end, page_count, open_at, row_at, entry_at, named_block, directory_at, start_at}
use Rattle.memory_layout.specs.Flat.{capacity_of, opens_of, rows_of, entries_of, named_of, directories_of, Becomes}
use Rattle.memory_layout.specs.Store.{nest, checkpoint_of, store_of, store_in, has_rows, FreshFits, fresh_flat}
use Rattle.memory_layout.proofs.Laws.{becomes_store}
use Rattle.memory_layout.proofs.Changes.{apart_then}
use Rattle.memory_layout.proofs.Marks.{clear_used, zeros_at}

-- ---- the slots' names: the first i of n are written

pub names_start : (m : List ℕ) (a : ℕ) → Apart m m a 0
names_start m a = record { size = refl; below = λ b h. refl; above = λ b h. refl }

pub names_iteration : {m m1 m2 : List ℕ} {a : ℕ} (i : ℕ) → Apart m m1 a (i * 2) → Apart m1 m2 (a + i * 2) 2 → Apart m m2 a ((i + 1) * 2)
names_iteration {m} {m2 = m2} {a = a} i s w = let e : i * 2 + 2 ≡ (i + 1) * 2 = omega arith in subst (Apart m m2 a) e (apart_then 2 s w)

-- ---- the head

-- what the fresh memory's bytes say
pub record Blanked (m' : List ℕ) (b n : ℕ) : Type 0 where
  pub sign : le4 m' 0 ≡ signature
  pub capacity : capacity_of m' ≡ n
  pub blocks : le4 m' 8 ≡ b
  pub zeros : (x : ℕ) → 12 ≤ x → x < opens_at → get_or m' x 0 ≡ 0
  pub unused : (x : ℕ) → used_at ≤ x → x < head_size → get_or m' x 0 ≡ 0

zero2 : (m : List ℕ) (a : ℕ) → ((x : ℕ) → a ≤ x → x < a + 2 → get_or m x 0 ≡ 0) → le2 m a ≡ 0
unfolding le2
zero2 m a z = omega (arith, z a (omega arith) (omega arith), z (a + 1) (omega arith) (omega arith))

zero4 : (m : List ℕ) (a : ℕ) → ((x : ℕ) → a ≤ x → x < a + 4 → get_or m x 0 ≡ 0) → le4 m a ≡ 0
unfolding le4
zero4 m a z =
    omega (arith, z a (omega arith) (omega arith), z (a + 1) (omega arith) (omega arith), z (a + 2) (omega arith) (omega arith), z (a + 3) (omega arith) (omega arith))

module _ {m' : List ℕ} {b n : ℕ} (k : Blanked m' b n) where
  word : (a : ℕ) → 12 ≤ a → a + 4 ≤ opens_at → le4 m' a ≡ 0
  word a h l = zero4 m' a (λ x p q. k.zeros x (omega arith) (omega arith))

  ends : (t : ℕ) → t < 8 → table_end m' t ≡ 0
  ends t h = zero2 m' (64 + t * 2) (λ x p q. k.zeros x (omega arith) (omega arith))

  start : start_at m' (capacity_of m') 0 ≡ 0
  unfolding start_at if'◌then◌else◌
  start = rw (le-ltb 0 (page_count m') (omega (arith, ends 7 (omega arith)))) (word 32 (omega arith) (omega arith))

  pub blank_becomes : {m : List ℕ} → FreshFits (length m) b n → length m' ≡ length m → Becomes m m' (fresh_flat b n)
  unfolding fresh_flat head_of counts_of opens_of rows_of entries_of named_of directories_of
  blank_becomes g l =
      let w = word in
      record {
        size = l;
        room = record {
          sign = k.sign;
          range = record {
            least = omega (arith, g.least, k.capacity);
            most = omega (arith, g.most, k.capacity);
            long = omega (arith, g.long, k.capacity);
            few = omega (arith, g.few, k.blocks);
            many = omega (arith, g.many, k.blocks);
            taken = omega (arith, g.few, k.blocks, w 28 (omega arith) (omega arith));
            rows = omega (arith, w 32 (omega arith) (omega arith));
            pages = omega (arith, ends 7 (omega arith));
            opens = omega (arith, w 36 (omega arith) (omega arith));
            named = omega (arith, w 40 (omega arith) (omega arith));
            directories = omega (arith, w 44 (omega arith) (omega arith));
          };
          tables = λ t h. omega (arith, ends t (omega arith));
          begins = start;
          rises = λ p h. absurd (omega (arith, ends 7 (omega arith)));
        };
        flat = λ i. record {
          head = record {
            capacity = k.capacity i;
            blocks = k.blocks i;
            level = w 12 (omega arith) (omega arith) i;
            next = w 16 (omega arith) (omega arith) i;
            running = not (eqb (w 20 (omega arith) (omega arith) i) 0);
            begun = w 24 (omega arith) (omega arith) i;
            taken = w 28 (omega arith) (omega arith) i;
          };
          opens = tab (open_at m') 0 (w 36 (omega arith) (omega arith) i);
          rows = tab (row_at m' (capacity_of m')) 0 (w 32 (omega arith) (omega arith) i);
          entries = tab (entry_at m' (capacity_of m')) 0 (ends 7 (omega arith) i);
          named = tab (named_block m' (capacity_of m')) 0 (w 40 (omega arith) (omega arith) i);
          directories = tab (directory_at m') 0 (w 44 (omega arith) (omega arith) i);
          used = clear_used m' k.unused i;
        };
      }

-- the six writes, one after the other
pub blanked : {m m1 m2 m3 m4 m5 m6 : List ℕ} {b n : ℕ} → n ≤ capacity_limit → b ≤ block_limit → Wrote m m1 0 (replicate opens_at 0) → Wrote m1 m2 0 (bytes4 signature) → Wrote m2 m3 4 (bytes4 n)
    → Wrote m3 m4 8 (bytes4 b) → Wrote m4 m5 used_at (replicate used_size 0) → Apart m5 m6 (refs_at n) (n * 2) → Blanked m6 b n
blanked {m} {m1} {m2} {m3} {m4} {m5} {m6} {b} {n} nb bb w1 w2 w3 w4 w5 s =
    let l1 : length (replicate {A = ℕ} opens_at 0) ≡ opens_at = length-replicate {A = ℕ} opens_at 0 in
    let l5 : length (replicate {A = ℕ} used_size 0) ≡ used_size = length-replicate {A = ℕ} used_size 0 in
    let k3 = le4_below w3.apart in
    let behind : (x : ℕ) → x + 4 ≤ used_at → le4 m6 x ≡ le4 m4 x = λ x h. le4_below s x (omega arith) ∙ le4_below w5.apart x (omega arith) in
    record {
      sign = behind 0 (omega arith) ∙ le4_below w4.apart 0 (omega arith) ∙ k3 0 (omega arith) ∙ le4_wrote signature (omega arith) w2;
      capacity = behind 4 (omega arith) ∙ le4_below w4.apart 4 (omega arith) ∙ le4_wrote n (omega arith) w3;
      blocks = behind 8 (omega arith) ∙ le4_wrote b (omega arith) w4;
      zeros = λ x p q. s.below x (omega arith) ∙ w5.apart.below x (omega arith) ∙ w4.apart.above x (omega arith) ∙ w3.apart.above x (omega arith)
          ∙ w2.apart.above x (omega arith) ∙ zeros_at opens_at w1 x (omega arith) (omega arith);
      unused = λ x p q. s.below x (omega arith) ∙ zeros_at used_size w5 x p (omega arith);
    }

fresh_counted : (b n : ℕ) → all has_rows (fresh_flat b n).entries ≡ true
unfolding fresh_flat all
fresh_counted b n = refl

fresh_means : (b n : ℕ) → store_of (fresh_flat b n) ≡ fresh_store b n
unfolding store_of fresh_flat fresh_store nest checkpoint_of if'◌then◌else◌
fresh_means b n = refl

-- the memory holds the fresh store
pub blank_in : {m m' : List ℕ} (b n : ℕ) → Becomes m m' (fresh_flat b n) → store_in m' ≡ some (fresh_store b n)
blank_in b n e = becomes_store e (fresh_counted b n) ∙ ap some (fresh_means b n)
