-- Tables and entries after a page was opened or closed.
use Rattle.block_forms.specs.Limits.{block_limit}
use Rattle.basics.proofs.Kit.{◌≡◌, sym, ap, ◌∙◌, ⊎_elim, List, ℕ, suc, ◌+◌, ◌%◌, ◌≤◌, ◌<◌, ◌/◌, ◌-◌, eqb, length, arith}
use Rattle.basics.proofs.Tabs.{lt_or_ge}
use Rattle.memory_layout.specs.Views.{page_count, table_end, table_at, start_at, block_word, entry_at}
use Rattle.memory_layout.specs.Flat.{flat_of, capacity_of, entry_in, Room}
use Rattle.memory_layout.proofs.Laws.{entries_length}
use Rattle.memory_pages.specs.Columns.{Opened, Closed}
use Rattle.memory_pages.specs.Pages.{Between, with_count}
use Rattle.memory_pages.proofs.Ranges.{entry_table, entry_frozen, entry_block, start_step}
use Rattle.memory_pages.proofs.Tables.{TableIs, table_by, Rise, table_by_ends, table_is, ends_rise}

-- an entry by its parts
pub entry_is : (m : List ℕ) (c k : ℕ) {t n w : ℕ} → table_at m k ≡ t → start_at m c (suc k) - start_at m c k ≡ n → block_word m c k ≡ w
    → entry_at m c k ≡ record { table = t; frozen = eqb (w / block_limit % 2) 1; count = n; block = w % block_limit }
unfolding entry_at
entry_is m c k t n w = λ i. record { table = t i; frozen = eqb (w i / block_limit % 2) 1; count = n i; block = w i % block_limit }

-- an entry of the one is an entry of the other
pub entry_same : (m m' : List ℕ) (c j k : ℕ) → table_at m' k ≡ table_at m j → start_at m' c (suc k) - start_at m' c k ≡ start_at m c (suc j) - start_at m c j
    → block_word m' c k ≡ block_word m c j → entry_at m' c k ≡ entry_at m c j
unfolding entry_at
entry_same m m' c j k t n w = entry_is m' c k t n w

-- the same page with another count
pub entry_counted : (m m' : List ℕ) {n : ℕ} (p : ℕ) → p < page_count m → table_at m' p ≡ table_at m p
    → start_at m' (capacity_of m) (suc p) - start_at m' (capacity_of m) p ≡ n → block_word m' (capacity_of m) p ≡ block_word m (capacity_of m) p
    → entry_at m' (capacity_of m) p ≡ with_count (entry_in (flat_of m) p) n
entry_counted m m' {n} p h et en ew =
    entry_is m' (capacity_of m) p (et ∙ sym (entry_table m p h)) en ew
    ∙ (λ i. record { table = (entry_in (flat_of m) p).table; frozen = sym (entry_frozen m p h) i; count = n; block = sym (entry_block m p h) i })

-- ---- where a page of table t may stand

pub record Stands (m : List ℕ) (p t : ℕ) : Type 0 where
  pub table : t < 8
  pub low : (u : ℕ) → u < t → table_end m u ≤ p
  pub high : (u : ℕ) → t ≤ u → u < 8 → p ≤ table_end m u

pub stands : {m : List ℕ} {p t : ℕ} → Room m → Between (flat_of m) t p → Stands m p t
stands {m} {p} {t} room s =
    let l : length (flat_of m).entries ≡ page_count m = entries_length m in
    let top : p ≤ page_count m = omega (arith, s.most) in
    let b : t < 8 = s.table in
    record {
      table = b;
      low = λ u h. ⊎_elim
          (λ k. (table_is room p).low u (omega (arith, s.above p (omega arith) (omega arith), entry_table m p k)))
          (λ k. omega (arith, ends_rise room u 7 (omega arith) (omega arith)))
          (lt_or_ge p (page_count m));
      high = λ u h k. ⊎_elim
          (λ z. ⊎_elim
          (λ v. let q = (table_is room (p - 1)).high u (omega (arith, s.below (p - 1) (omega arith), entry_table m (p - 1) (omega arith))) v in omega arith)
          (λ v. let e : u ≡ 7 = omega arith in omega (arith, ap (table_end m) e))
          (lt_or_ge u 7))
          (λ z. omega arith)
          (lt_or_ge 0 p);
    }

-- behind a page of its table
pub stands_behind : {m : List ℕ} → Room m → (p : ℕ) → p < page_count m → Stands m (suc p) (table_at m p)
stands_behind {m} room p h =
    let s = table_is room p in
    let b : table_at m p ≤ 7 = s.most in
    record {
      table = omega arith;
      low = λ u k. omega (arith, s.low u k);
      high = λ u k l. ⊎_elim (λ v. s.high u k v) (λ v. let e : u ≡ 7 = omega arith in omega (arith, ap (table_end m) e)) (lt_or_ge u 7);
    }

-- this table and those behind it end behind the page
pub ends_behind : {m : List ℕ} {p t : ℕ} → TableIs m p t → p < page_count m → (u : ℕ) → t ≤ u → u < 8 → p < table_end m u
ends_behind {m} s h u k l =
    ⊎_elim (λ v. s.high u k v) (λ v. let e : u ≡ 7 = omega arith in omega (arith, ap (table_end m) e)) (lt_or_ge u 7)

-- ---- a page more: the memory b has one page more than a, before page p of a and of table t

pub record More (a b : List ℕ) (c p t : ℕ) : Type 0 where
  pub rise : Rise a
  pub stands : Stands a p t
  pub ends_before : (u : ℕ) → u < t → table_end b u ≡ table_end a u
  pub ends_from : (u : ℕ) → t ≤ u → u < 8 → table_end b u ≡ table_end a u + 1
  pub starts_before : (j : ℕ) → j < p → start_at b c j ≡ start_at a c j
  pub starts_from : (j : ℕ) → p ≤ j → start_at b c (suc j) ≡ start_at a c j
  pub words_before : (j : ℕ) → j < p → block_word b c j ≡ block_word a c j
  pub words_from : (j : ℕ) → p ≤ j → j < page_count a → block_word b c (suc j) ≡ block_word a c j

pub opens : {m m' : List ℕ} {p t x : ℕ} → Room m → Stands m p t → Opened m m' p t x → More m m' (capacity_of m) p t
opens room s o =
    record {
      rise = room.tables;
      stands = s;
      ends_before = o.ends_before;
      ends_from = o.ends_from;
      starts_before = o.starts_before;
      starts_from = o.starts_from;
      words_before = o.words_before;
      words_from = o.words_from;
    }

pub closes : {m m' : List ℕ} {p t : ℕ} → Room m → TableIs m p t → p < page_count m → Closed m m' p t → More m' m (capacity_of m) p t
closes room s h o =
    record {
      rise = λ u k. ⊎_elim
          (λ v. ⊎_elim
          (λ l. omega (arith, o.ends_before u v, o.ends_before (u + 1) l, room.tables u k))
          (λ l. omega (arith, o.ends_before u v, o.ends_from (u + 1) l (omega arith), s.low u v, ends_behind s h (u + 1) l (omega arith)))
          (lt_or_ge (u + 1) _))
          (λ v. omega (arith, o.ends_from u v (omega arith), o.ends_from (u + 1) (omega arith) (omega arith), room.tables u k))
          (lt_or_ge u _);
      stands = record {
        table = omega (arith, s.most);
        low = λ u k. omega (arith, o.ends_before u k, s.low u k);
        high = λ u k l. omega (arith, o.ends_from u k l, ends_behind s h u k l);
      };
      ends_before = λ u k. sym (o.ends_before u k);
      ends_from = λ u k l. sym (o.ends_from u k l);
      starts_before = λ j k. sym (o.starts_before j k);
      starts_from = λ j k. sym (o.starts_from j k);
      words_before = λ j k. sym (o.words_before j k);
      words_from = λ j k l. sym (o.words_from j k (omega (arith, o.ends_from 7 (omega (arith, s.most)) (omega arith))));
    }

module _ {a b : List ℕ} {c p t : ℕ} (o : More a b c p t) where
  pub more_tables : Rise b
  more_tables u h = ⊎_elim
      (λ k. ⊎_elim
      (λ l. omega (arith, o.ends_before u k, o.ends_before (u + 1) l, o.rise u h))
      (λ l. omega (arith, o.ends_before u k, o.ends_from (u + 1) l (omega arith), o.rise u h))
      (lt_or_ge (u + 1) t))
      (λ k. omega (arith, o.ends_from u k (omega arith), o.ends_from (u + 1) (omega arith) (omega arith), o.rise u h))
      (lt_or_ge u t)

  pub more_before : (j : ℕ) → j < p → table_at b j ≡ table_at a j
  more_before j h =
      let is = table_by_ends o.rise j in
      table_by (record {
        most = is.most;
        low = λ u k. ⊎_elim
            (λ v. omega (arith, o.ends_before u v, is.low u k))
            (λ v. absurd (omega (arith, is.most, is.low u k, o.stands.high u v (omega (arith, is.most)))))
            (lt_or_ge u t);
        high = λ u k l. ⊎_elim
            (λ v. omega (arith, o.ends_before u v, is.high u k l))
            (λ v. omega (arith, o.ends_from u v (omega arith), is.high u k l))
            (lt_or_ge u t);
      })

  pub more_here : table_at b p ≡ t
  more_here =
      let s = o.stands in
      table_by (record {
        most = omega (arith, s.table);
        low = λ u k. omega (arith, o.ends_before u k, s.low u k);
        high = λ u k l. omega (arith, o.ends_from u k (omega arith), s.high u k (omega arith));
      })

  more_from : (j : ℕ) → p ≤ j → table_at b (suc j) ≡ table_at a j
  more_from j h =
      let is = table_by_ends o.rise j in
      table_by (record {
        most = is.most;
        low = λ u k. ⊎_elim
            (λ v. omega (arith, o.ends_before u v, is.low u k))
            (λ v. omega (arith, is.most, is.low u k, o.ends_from u v (omega (arith, is.most))))
            (lt_or_ge u t);
        high = λ u k l. ⊎_elim
            (λ v. absurd (omega (arith, o.stands.low u v, is.high u k l)))
            (λ v. omega (arith, o.ends_from u v (omega arith), is.high u k l))
            (lt_or_ge u t);
      })

  -- pages before the one before it
  pub more_same : (j : ℕ) → suc j < p → entry_at b c j ≡ entry_at a c j
  more_same j h =
      entry_same a b c j j (more_before j (omega arith)) (omega (arith, o.starts_before j (omega arith), o.starts_before (suc j) h)) (o.words_before j (omega arith))

  -- pages before it, if the page before it ends where it did
  module _ (e : start_at b c p ≡ start_at a c p) where
    pub more_start : (j : ℕ) → j ≤ p → start_at b c j ≡ start_at a c j
    more_start j h = ⊎_elim (λ k. o.starts_before j k) (λ k. let q : j ≡ p = omega arith in ap (start_at b c) q ∙ e ∙ ap (start_at a c) (sym q)) (lt_or_ge j p)

    pub more_low : (j : ℕ) → j < p → entry_at b c j ≡ entry_at a c j
    more_low j h = entry_same a b c j j (more_before j h) (omega (arith, more_start j (omega arith), more_start (suc j) h)) (o.words_before j h)

  -- pages behind it
  pub more_entry : (j : ℕ) → p ≤ j → j < page_count a → entry_at b c (suc j) ≡ entry_at a c j
  more_entry j h k = entry_same a b c j (suc j) (more_from j h) (omega (arith, o.starts_from j h, o.starts_from (suc j) (omega arith))) (o.words_from j h k)

-- starts still rise, if the new one is between its neighbours
pub open_rises : {m m' : List ℕ} {p t x : ℕ} → Room m → Opened m m' p t x → ((j : ℕ) → j < p → start_at m (capacity_of m) j ≤ x) → x ≤ start_at m (capacity_of m) p
    → (j : ℕ) → start_at m' (capacity_of m) j ≤ start_at m' (capacity_of m) (j + 1)
open_rises {m} {m'} {p} room o low high j =
    let c : ℕ = capacity_of m in
    let e : suc j ≡ j + 1 = omega arith in
    ⊎_elim
    (λ h. ⊎_elim
    (λ k. omega (arith, o.starts_before j h, o.starts_before (j + 1) k, start_step room j))
    (λ k. let q : j + 1 ≡ p = omega arith in omega (arith, o.starts_before j h, low j h, o.start, ap (start_at m' c) q))
    (lt_or_ge (j + 1) p))
    (λ h. ⊎_elim
    (λ k.
    let q : suc (j - 1) ≡ j = omega arith in
    let q2 : j - 1 + 1 ≡ j = omega arith in
    omega (arith, o.starts_from (j - 1) (omega arith), ap (start_at m' c) q, o.starts_from j h, ap (start_at m' c) e, start_step room (j - 1), ap (start_at m c) q2))
    (λ k. let q : j ≡ p = omega arith in omega (arith, ap (start_at m' c) q, ap (start_at m c) q, o.start, o.starts_from j h, ap (start_at m' c) e))
    (lt_or_ge p j))
    (lt_or_ge j p)
