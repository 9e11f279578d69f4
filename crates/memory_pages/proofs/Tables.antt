-- A page's table by the ends of the tables.
use Rattle.basics.proofs.Kit.{◌≡◌, refl, sym, ap, ◌∙◌, ⊎_elim, true, false, List, ℕ, suc, ◌+◌, ◌≤◌, ◌<◌, zero, ◌-◌, leb, length, le-leb, lt-leb, arith}
use Rattle.basics.specs.Basics.{if'◌then◌else◌, how_many, from}
use Rattle.memory_bytes.specs.Columns.{up_to}
use Rattle.basics.specs.Lists.{tab}
use Rattle.basics.proofs.Tabs.{lt_or_ge}
use Rattle.memory_layout.specs.Views.{page_count, table_end, table_at}
use Rattle.memory_layout.specs.Flat.{Flat, flat_of, entry_in, Room}
use Rattle.memory_layout.proofs.Laws.{entries_length}
use Rattle.memory_pages.specs.Pages.{TableFrom, Between}
use Rattle.memory_pages.proofs.Ranges.{rising, entry_table}

-- ---- how many of a rising row of numbers are at most p

-- the first k are, the others are not
pub count_cut : (E : ℕ → ℕ) (p a n k : ℕ) → k ≤ n → ((t : ℕ) → a ≤ t → t < a + k → E t ≤ p) → ((t : ℕ) → a + k ≤ t → t < a + n → p < E t)
    → how_many (up_to p) (tab E a n) ≡ k
unfolding how_many if'◌then◌else◌
count_cut E p a zero zero b h l = refl
count_cut E p a zero (suc k) b h l = absurd (omega arith)
count_cut E p a (suc n) zero b h l =
    let e : leb (E a) p ≡ false = lt-leb (E a) p (l a (omega arith) (omega arith)) in
    rw e (count_cut E p (suc a) n zero (omega arith) (λ t x y. absurd (omega arith)) (λ t x y. l t (omega arith) (omega arith)))
count_cut E p a (suc n) (suc k) b h l =
    let e : leb (E a) p ≡ true = le-leb (E a) p (h a (omega arith) (omega arith)) in
    rw e (ap suc (count_cut E p (suc a) n k (omega arith) (λ t x y. h t (omega arith) (omega arith)) (λ t x y. l t (omega arith) (omega arith))))

-- numbers a to a + n: the first at of them are at most p, the others above
pub record Cut (E : ℕ → ℕ) (p a n : ℕ) : Type 0 where
  pub at : ℕ
  pub most : at ≤ n
  pub low : (t : ℕ) → a ≤ t → t < a + at → E t ≤ p
  pub high : (t : ℕ) → a + at ≤ t → t < a + n → p < E t

pub cut : (E : ℕ → ℕ) (p a n : ℕ) → ((t : ℕ) → a ≤ t → t + 1 < a + n → E t ≤ E (t + 1)) → Cut E p a n
cut E p a zero h = record { at = 0; most = omega arith; low = λ t u v. absurd (omega arith); high = λ t u v. absurd (omega arith) }
cut E p a (suc n) h =
    ⊎_elim
    (λ q. record {
      at = 0;
      most = omega arith;
      low = λ t u v. absurd (omega arith);
      high = λ t u v.
          let e : a + (t - a) ≡ t = omega arith in
          omega (arith, rising E a (t - a) (λ s x y. h s x (omega arith)), ap E e);
    })
    (λ q.
    let r = cut E p (suc a) n (λ t u v. h t (omega arith) (omega arith)) in
    record {
      at = suc r.at;
      most = omega (arith, r.most);
      low = λ t u v. ⊎_elim (λ x. r.low t x (omega arith)) (λ x. let e : t ≡ a = omega arith in omega (arith, ap E e)) (lt_or_ge a t);
      high = λ t u v. r.high t (omega arith) (omega arith);
    })
    (lt_or_ge p (E a))

-- ---- a page's table

-- page p is of table k: the tables below it end before or with it, the others behind it
pub record TableIs (m : List ℕ) (p k : ℕ) : Type 0 where
  pub most : k ≤ 7
  pub low : (t : ℕ) → t < k → table_end m t ≤ p
  pub high : (t : ℕ) → k ≤ t → t < 7 → p < table_end m t

-- what the code counts
pub table_counted : (m : List ℕ) (p : ℕ) → how_many (up_to p) (tab (table_end m) 0 7) ≡ table_at m p
unfolding table_at how_many from
table_counted m p = refl

pub table_by : {m : List ℕ} {p k : ℕ} → TableIs m p k → table_at m p ≡ k
table_by {m} {p} {k} s =
    sym (table_counted m p)
    ∙ count_cut (table_end m) p 0 7 k s.most (λ t u v. s.low t (omega arith)) (λ t u v. s.high t (omega arith) (omega arith))

-- the ends of the tables do not fall
abbrev pub Rise : List ℕ → Type 0
Rise m = (u : ℕ) → u < 7 → table_end m u ≤ table_end m (u + 1)

pub table_by_ends : {m : List ℕ} → Rise m → (p : ℕ) → TableIs m p (table_at m p)
table_by_ends {m} rise p =
    let r = cut (table_end m) p 0 7 (λ t u v. rise t (omega arith)) in
    let is : TableIs m p r.at = record {
      most = r.most;
      low = λ t b. r.low t (omega arith) (omega arith);
      high = λ t u v. r.high t (omega arith) (omega arith);
    } in
    let e : table_at m p ≡ r.at = table_by is in
    record { most = omega (arith, is.most); low = λ t b. is.low t (omega arith); high = λ t u v. is.high t (omega arith) v }

module _ {m : List ℕ} (room : Room m) where
  pub ends_rise : (s t : ℕ) → s ≤ t → t < 8 → table_end m s ≤ table_end m t
  ends_rise s t h b =
      let e : s + (t - s) ≡ t = omega arith in
      omega (arith, rising (table_end m) s (t - s) (λ u x y. room.tables u (omega arith)), ap (table_end m) e)

  pub table_is : (p : ℕ) → TableIs m p (table_at m p)
  table_is = table_by_ends room.tables

-- ---- the first page of a table

module _ {m : List ℕ} (room : Room m) where
  -- of the first table
  pub from_zero : {r : ℕ} → r ≡ 0 → TableFrom (flat_of m) 0 r
  from_zero e = record { most = omega arith; below = λ p b. absurd (omega arith); above = λ p a b. omega arith }

  -- of the one behind table t
  pub from_end : (t : ℕ) {r : ℕ} → t < 8 → r ≡ table_end m t → TableFrom (flat_of m) (t + 1) r
  from_end t {r} b e =
      let top : table_end m t ≤ page_count m = ends_rise room t 7 (omega arith) (omega arith) in
      let l : length (flat_of m).entries ≡ page_count m = entries_length m in
      record {
        most = omega arith;
        below = λ p q. ⊎_elim
            (λ x. absurd (omega (arith, (table_is room p).low t x)))
            (λ x. omega (arith, entry_table m p (omega arith)))
            (lt_or_ge t (table_at m p));
        above = λ p x y. ⊎_elim
            (λ z. absurd (⊎_elim
            (λ w. omega (arith, (table_is room p).high t (omega arith) w))
            (λ w. let q : t ≡ 7 = omega arith in omega (arith, ap (table_end m) q))
            (lt_or_ge t 7)))
            (λ z. omega (arith, entry_table m p (omega arith)))
            (lt_or_ge (table_at m p) (t + 1));
      }

-- tables of pages do not fall
pub tables_rise : {m : List ℕ} → Room m → (p q : ℕ) → p ≤ q → q < page_count m → (entry_in (flat_of m) p).table ≤ (entry_in (flat_of m) q).table
tables_rise {m} room p q h b =
    let high = table_is room q in
    ⊎_elim
    (λ k. absurd (omega (
      arith,
      (table_is room p).low (table_at m q) k,
      ⊎_elim
          (λ l. high.high (table_at m q) (omega arith) l)
          (λ l. let e : table_at m q ≡ 7 = omega (arith, high.most) in omega (arith, ap (table_end m) e))
          (lt_or_ge (table_at m q) 7),
    )))
    (λ k. omega (arith, entry_table m p (omega arith), entry_table m q b))
    (lt_or_ge (table_at m q) (table_at m p))

-- from the first page of a table up to that of the next, a page of the table may stand
pub between : {f : Flat} {t a b : ℕ} (p : ℕ) → t < 8 → TableFrom f t a → TableFrom f (t + 1) b → a ≤ p → p ≤ b → Between f t p
between p h s e u v =
    record {
      table = h;
      most = omega (arith, e.most);
      below = λ j k. omega (arith, e.below j (omega arith));
      above = λ j k l. s.above j (omega arith) l;
    }
