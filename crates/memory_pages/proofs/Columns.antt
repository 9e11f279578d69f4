-- What the bytes of the pages say after a number was put into a column or taken out, and after a page was opened or closed.
use Rattle.basics.proofs.Kit.{◌≡◌, sym, ap, ◌∙◌, subst, ⊎_elim, List, ℕ, suc, ◌+◌, ◌*◌, ◌≤◌, ◌<◌, get_or, arith}
use Rattle.memory_bytes.specs.Bytes.{le2, bytes2, column2, Apart, Raised, Lowered, Wrote, Added}
use Rattle.memory_bytes.proofs.Bytes.{le2_below, le2_above, le2_raised, le2_lowered, le2_wrote, le4_cong}
use Rattle.basics.proofs.Tabs.{lt_or_ge}
use Rattle.memory_layout.specs.Places.{starts_at, blocks_at, named_at}
use Rattle.memory_layout.specs.Views.{row_count, page_count, table_end, start_at, block_word}
use Rattle.memory_layout.specs.Flat.{flat_of, capacity_of, Room, Becomes, with_entries}
use Rattle.memory_layout.specs.declared.Entry.{Entry}
use Rattle.memory_layout.proofs.Changes.{PagesAre, kept_rows, becomes_rest}
use Rattle.memory_pages.specs.Columns.{Inserted2, Removed2, PagesOnly, Opened, Closed, MayOpen, MayClose}
use Rattle.memory_pages.proofs.Ranges.{ranges, start_stored, start_behind}
use Rattle.memory_pages.proofs.Tables.{ends_rise}

-- ---- one column

pub inserted2 : {m m1 m2 : List ℕ} {base i n x : ℕ} → i ≤ n → x < 65536 → Raised m m1 (base + i * 2) (base + n * 2) 2
    → Wrote m1 m2 (base + i * 2) (bytes2 x) → Inserted2 m m2 base i n x
inserted2 {m} {m1} {m2} {base} {i} {n} {x} h f r w =
    record {
      apart = record {
        size = w.apart.size ∙ r.apart.size;
        below = λ b q. w.apart.below b q ∙ r.apart.below b q;
        above = λ b q. w.apart.above b (omega arith) ∙ r.apart.above b (omega arith);
      };
      here = le2_wrote x f w;
      later = λ j p q.
          let e : base + suc j * 2 ≡ base + j * 2 + 2 = omega arith in
          ap (le2 m2) e ∙ le2_above w.apart (base + j * 2 + 2) (omega arith) ∙ le2_raised r (base + j * 2) (omega arith) (omega arith);
    }

pub removed2 : {m m' : List ℕ} {base i n : ℕ} → i < n → Lowered m m' (base + i * 2) (base + n * 2) 2 → Removed2 m m' base i n
removed2 {m} {m'} {base} {i} {n} h r =
    record {
      apart = record { size = r.apart.size; below = r.apart.below; above = λ b q. r.apart.above b (omega arith) };
      later = λ j p q.
          let e : base + j * 2 + 2 ≡ base + suc j * 2 = omega arith in
          le2_lowered r (base + j * 2) (omega arith) (omega arith) ∙ ap (le2 m) e;
    }

-- ---- only the pages

pub then_only : {c : ℕ} {m m1 m2 : List ℕ} → PagesOnly c m m1 → PagesOnly c m1 m2 → PagesOnly c m m2
then_only s t =
    record {
      size = t.size ∙ s.size;
      below = λ b h. t.below b h ∙ s.below b h;
      between = λ b h k. t.between b h k ∙ s.between b h k;
      above = λ b h. t.above b h ∙ s.above b h;
    }

only_from : {c a n : ℕ} {m m' : List ℕ} → Apart m m' a n → 64 ≤ a → a + n ≤ named_at c → ((b : ℕ) → 80 ≤ b → b < starts_at c → get_or m' b 0 ≡ get_or m b 0) → PagesOnly c m m'
only_from s h k between = record { size = s.size; below = λ b q. s.below b (omega arith); between = between; above = λ b q. s.above b (omega arith) }

-- a change in the two columns
pub in_columns : {c a n : ℕ} {m m' : List ℕ} → Apart m m' a n → starts_at c ≤ a → a + n ≤ named_at c → PagesOnly c m m'
in_columns s h k = only_from s (omega arith) k (λ b p q. s.below b (omega arith))

-- a change in the ends of the tables
pub in_ends : {c a n : ℕ} {m m' : List ℕ} → Apart m m' a n → 64 ≤ a → a + n ≤ 80 → PagesOnly c m m'
in_ends s h k = only_from s h (omega arith) (λ b p q. s.above b (omega arith))

-- the number of rows is as it was
pub same_row_count : {c : ℕ} {m m' : List ℕ} → PagesOnly c m m' → row_count m' ≡ row_count m
same_row_count {c} {m} {m'} s = le4_cong m m' 32 32 (λ k h. s.below (32 + k) (omega arith))

-- pages alone changed
pub entries_become : {m m' : List ℕ} {es : List Entry} → Room m → PagesOnly (capacity_of m) m m' → PagesAre m m' es → Becomes m m' (with_entries (flat_of m) es)
entries_become {m} {m'} room o pages =
    becomes_rest m m' room
    (record {
      size = o.size;
      head = λ b p q. o.below b (omega arith);
      counts = λ b p q. o.below b (omega arith);
      lists = λ b p q. o.between b p (omega arith);
      named = o.above;
    })
    (kept_rows m m' room (λ b p q. o.below b (omega arith)) (λ b p q. o.between b (omega arith) q))
    pages

-- ---- a page opened or closed: changes in the starts and in the blocks from page p on, then in the ends of the tables from table t on

record Steps (c p t : ℕ) (m m1 m2 m' : List ℕ) : Type 0 where
  only : PagesOnly c m m'
  end_old : (u : ℕ) → u < 8 → column2 m2 64 u ≡ table_end m u
  end_before : (u : ℕ) → u < t → table_end m' u ≡ table_end m u
  start_new : (j : ℕ) → j < 2 * c → column2 m' (starts_at c) j ≡ column2 m1 (starts_at c) j
  start_before : (j : ℕ) → j < p → p ≤ page_count m → p ≤ page_count m' → start_at m' c j ≡ start_at m c j
  word_new : (j : ℕ) → block_word m' c j ≡ block_word m2 c j
  word_old : (j : ℕ) → block_word m1 c j ≡ block_word m c j
  word_before : (j : ℕ) → j < p → block_word m' c j ≡ block_word m c j

steps : {c p t i k l : ℕ} {m m1 m2 m' : List ℕ} → Apart m m1 (starts_at c + p * 2) i → Apart m1 m2 (blocks_at c + p * 2) k → Apart m2 m' (64 + t * 2) l
    → p * 2 + i ≤ c * 4 → p * 2 + k ≤ c * 4 → t * 2 + l ≤ 16 → Steps c p t m m1 m2 m'
steps {c} {p} {t} {i} {k} {l} {m} {m1} {m2} {m'} x y z fi fk fl =
    let start : (j : ℕ) → j < 2 * c → column2 m' (starts_at c) j ≡ column2 m1 (starts_at c) j =
    λ j h. le2_above z (starts_at c + j * 2) (omega arith) ∙ le2_below y (starts_at c + j * 2) (omega arith) in
    let end : (u : ℕ) → u < 8 → column2 m2 64 u ≡ table_end m u = λ u h. le2_below y (64 + u * 2) (omega arith) ∙ le2_below x (64 + u * 2) (omega arith) in
    let word : (j : ℕ) → block_word m' c j ≡ block_word m2 c j = λ j. le2_above z (blocks_at c + j * 2) (omega arith) in
    let old : (j : ℕ) → block_word m1 c j ≡ block_word m c j = λ j. le2_above x (blocks_at c + j * 2) (omega arith) in
    record {
      only = then_only (in_columns x (omega arith) (omega arith)) (then_only (in_columns y (omega arith) (omega arith)) (in_ends z (omega arith) (omega arith)));
      end_old = end;
      end_before = λ u h. le2_below z (64 + u * 2) (omega arith) ∙ end u (omega arith);
      start_new = start;
      start_before = λ j h n n'.
          start_stored m' c j (omega arith) ∙ start j (omega arith) ∙ le2_below x (starts_at c + j * 2) (omega arith) ∙ sym (start_stored m c j (omega arith));
      word_new = word;
      word_old = old;
      word_before = λ j h. word j ∙ le2_below y (blocks_at c + j * 2) (omega arith) ∙ old j;
    }

-- b has one page more than a: the start of one behind it
start_later : (a b : List ℕ) (c j : ℕ) → page_count b ≡ page_count a + 1 → row_count b ≡ row_count a
    → (j < page_count a → column2 b (starts_at c) (suc j) ≡ column2 a (starts_at c) j) → start_at b c (suc j) ≡ start_at a c j
start_later a b c j en er e =
    ⊎_elim
    (λ k. start_stored b c (suc j) (omega arith) ∙ e k ∙ sym (start_stored a c j k))
    (λ k. start_behind b c (suc j) (omega arith) ∙ er ∙ sym (start_behind a c j k))
    (lt_or_ge j (page_count a))

pub opened : {m m1 m2 m' : List ℕ} {p t x n s b lo hi : ℕ} → Room m → MayOpen m p t → n ≡ page_count m → s ≡ starts_at (capacity_of m) → b ≡ blocks_at (capacity_of m)
    → Inserted2 m m1 s p n x → Inserted2 m1 m2 b p n 0 → Added m2 m' 64 lo hi 1 → lo ≡ t → hi ≡ 8 → Opened m m' p t x
opened {m} {m1} {m2} {m'} {p} {t} {x} {n} {s} {b} room may en es eb i1 i2 a el eh =
    let c : ℕ = capacity_of m in
    let r = ranges room in
    let in1 : Inserted2 m m1 (starts_at c) p n x = subst (λ (z : ℕ). Inserted2 m m1 z p n x) es i1 in
    let in2 : Inserted2 m1 m2 (blocks_at c) p n 0 = subst (λ (z : ℕ). Inserted2 m1 m2 z p n 0) eb i2 in
    let last : t < 8 = may.table in
    let top : p ≤ page_count m = may.place in
    let space : page_count m < 2 * c = may.space in
    let st = steps in1.apart in2.apart a.apart (omega arith) (omega arith) (omega arith) in
    let from : (u : ℕ) → t ≤ u → u < 8 → table_end m' u ≡ table_end m u + 1 =
    λ u h k. omega (arith, a.each u (omega arith) (omega arith), st.end_old u k, ends_rise room u 7 (omega arith) (omega arith)) in
    let more : page_count m' ≡ page_count m + 1 = from 7 (omega arith) (omega arith) in
    record {
      only = st.only;
      ends_before = λ u h. st.end_before u (omega arith);
      ends_from = from;
      starts_before = λ j h. st.start_before j h top (omega arith);
      start = start_stored m' c p (omega arith) ∙ st.start_new p (omega arith) ∙ in1.here;
      starts_from = λ j h. start_later m m' c j more (same_row_count st.only) (λ k. st.start_new (suc j) (omega arith) ∙ in1.later j h (omega arith));
      words_before = st.word_before;
      word = st.word_new p ∙ in2.here;
      words_from = λ j h k. st.word_new (suc j) ∙ in2.later j h (omega arith) ∙ st.word_old j;
    }

pub closed : {m m1 m2 m' : List ℕ} {p t n s b lo hi : ℕ} → Room m → MayClose m p t → n ≡ page_count m → s ≡ starts_at (capacity_of m) → b ≡ blocks_at (capacity_of m)
    → Removed2 m m1 s p n → Removed2 m1 m2 b p n → Added m2 m' 64 lo hi 65535 → lo ≡ t → hi ≡ 8 → Closed m m' p t
closed {m} {m1} {m2} {m'} {p} {t} {n} {s} {b} room may en es eb i1 i2 a el eh =
    let c : ℕ = capacity_of m in
    let r = ranges room in
    let out1 : Removed2 m m1 (starts_at c) p n = subst (λ (z : ℕ). Removed2 m m1 z p n) es i1 in
    let out2 : Removed2 m1 m2 (blocks_at c) p n = subst (λ (z : ℕ). Removed2 m1 m2 z p n) eb i2 in
    let last : t < 8 = may.table in
    let top : p < page_count m = may.place in
    let st = steps out1.apart out2.apart a.apart (omega arith) (omega arith) (omega arith) in
    let from : (u : ℕ) → t ≤ u → u < 8 → table_end m' u + 1 ≡ table_end m u =
    λ u h k. omega (arith, a.each u (omega arith) (omega arith), st.end_old u k, may.behind u h k, ends_rise room u 7 (omega arith) (omega arith)) in
    let less : page_count m' + 1 ≡ page_count m = from 7 (omega arith) (omega arith) in
    record {
      only = st.only;
      ends_before = λ u h. st.end_before u (omega arith);
      ends_from = from;
      starts_before = λ j h. st.start_before j h (omega arith) (omega arith);
      starts_from = λ j h. sym (start_later m' m c j (sym less) (sym (same_row_count st.only)) (λ k. sym (st.start_new j (omega arith) ∙ out1.later j h (omega arith))));
      words_before = st.word_before;
      words_from = λ j h k. st.word_new j ∙ out2.later j h (omega arith) ∙ st.word_old (suc j);
    }
