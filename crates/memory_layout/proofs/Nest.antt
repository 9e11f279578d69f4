-- Nested pages over flat rows: in parts, and with entries and their rows exchanged.
use Rattle.basics.proofs.Kit.{◌≡◌, refl, sym, ap, ◌∙◌, true, List, [], ◌∷◌, ◌++◌, ℕ, suc, ◌+◌, ◌≤◌, ◌<◌, zero, zero-add, length, take, drop, get_or}
use Rattle.basics.proofs.Kit.{length-drop, take-append-drop, drop-drop, take-append-le, drop-append-le, length-take-le, take-take, le-leb, leb-true}
use Rattle.basics.proofs.Kit.{arith}
use Rattle.basics.specs.Basics.{all, sum}
use Rattle.basics.proofs.Facts.{AllOf, and_true}
use Rattle.model.specs.State.{Held, Page}
use Rattle.memory_layout.specs.Store.{page_of, nest, total, has_rows}
use Rattle.memory_layout.specs.declared.Entry.{Entry}
use Rattle.basics.proofs.Parts.{drop_take}

-- ---- how many rows entries have

-- each entry has a row
abbrev pub Counted : List Entry → Type 0
Counted es = AllOf (λ (e : Entry). 1 ≤ e.count) es

pub total_append : (es fs : List Entry) → total (es ++ fs) ≡ total es + total fs
unfolding total sum
total_append [] fs = sym (zero-add _)
total_append (e ∷ es) fs = omega (arith, total_append es fs)

pub total_split : (i : ℕ) (es : List Entry) → total (take i es) + total (drop i es) ≡ total es
total_split i es = sym (total_append (take i es) (drop i es)) ∙ ap total (take-append-drop i es)

pub counted_append : (es fs : List Entry) → Counted es → Counted fs → Counted (es ++ fs)
counted_append [] fs a b = b
counted_append (e ∷ es) fs a b = (a.0, counted_append es fs a.1 b)

pub counted_take : (i : ℕ) (es : List Entry) → Counted es → Counted (take i es)
counted_take zero es a = tt
counted_take (suc i) [] a = tt
counted_take (suc i) (e ∷ es) a = (a.0, counted_take i es a.1)

pub counted_drop : (i : ℕ) (es : List Entry) → Counted es → Counted (drop i es)
counted_drop zero es a = a
counted_drop (suc i) [] a = tt
counted_drop (suc i) (e ∷ es) a = counted_drop i es a.1

pub counted_at : (es : List Entry) (i : ℕ) (d : Entry) → Counted es → i < length es → 1 ≤ (get_or es i d).count
counted_at [] i d c h = absurd (omega arith)
counted_at (e ∷ es) zero d c h = c.0
counted_at (e ∷ es) (suc i) d c h = counted_at es i d c.1 (omega arith)

pub counted_length : (es : List Entry) → Counted es → length es ≤ total es
unfolding total sum
counted_length [] a = omega arith
counted_length (e ∷ es) a = omega (arith, a.0, counted_length es a.1)

pub all_counted : (es : List Entry) → all has_rows es ≡ true → Counted es
unfolding all has_rows
all_counted [] h = tt
all_counted (e ∷ es) h = let t = and_true _ _ h in (leb-true 1 e.count t.0, all_counted es t.1)

pub counted_all : (es : List Entry) → Counted es → all has_rows es ≡ true
unfolding all has_rows
counted_all [] h = refl
counted_all (e ∷ es) h = simp (le-leb 1 e.count h.0, counted_all es h.1)

-- ---- nested lists, in parts

pub nest_append : (es fs : List Entry) (us vs : List Held) → length us ≡ total es → nest (es ++ fs) (us ++ vs) ≡ nest es us ++ nest fs vs
unfolding nest total sum
nest_append [] fs [] vs h = refl
nest_append [] fs (u ∷ us) vs h = absurd (omega arith)
nest_append (e ∷ es) fs us vs h =
    let l : e.count ≤ length us = omega arith in
    let ld : length (drop e.count us) ≡ total es = simp length-drop (omega arith) in
    let a : take e.count (us ++ vs) ≡ take e.count us = take-append-le e.count us vs l in
    let b : drop e.count (us ++ vs) ≡ drop e.count us ++ vs = drop-append-le e.count us vs l in
    (λ i. page_of e (a i) ∷ nest (es ++ fs) (b i))
    ∙ ap (λ (z : List Page). page_of e (take e.count us) ∷ z) (nest_append es fs (drop e.count us) vs ld)

pub length_nest : (es : List Entry) (ts : List Held) → length (nest es ts) ≡ length es
unfolding nest
length_nest [] ts = refl
length_nest (e ∷ es) ts = ap suc (length_nest es (drop e.count ts))

pub take_nest : (i : ℕ) (es : List Entry) (ts : List Held) → take i (nest es ts) ≡ nest (take i es) (take (total (take i es)) ts)
unfolding nest total sum
take_nest zero es ts = refl
take_nest (suc i) [] ts = refl
take_nest (suc i) (e ∷ es) ts =
    let n : ℕ = e.count in
    let k : ℕ = total (take i es) in
    let a : take n (take (n + k) ts) ≡ take n ts = take-take n (n + k) ts (omega arith) in
    let b : drop n (take (n + k) ts) ≡ take k (drop n ts) = drop_take n k ts in
    ap (λ (z : List Page). page_of e (take n ts) ∷ z) (take_nest i es (drop n ts))
    ∙ (λ j. page_of e (sym a j) ∷ nest (take i es) (sym b j))

pub drop_nest : (i : ℕ) (es : List Entry) (ts : List Held) → drop i (nest es ts) ≡ nest (drop i es) (drop (total (take i es)) ts)
unfolding nest total sum
drop_nest zero es ts = refl
drop_nest (suc i) [] ts = refl
drop_nest (suc i) (e ∷ es) ts = drop_nest i es (drop e.count ts) ∙ ap (nest (drop i es)) (drop-drop (total (take i es)) e.count ts)

-- page i
pub nest_at : (es : List Entry) (ts : List Held) (i : ℕ) (d : Entry) → i < length es
    → drop i (nest es ts) ≡ page_of (get_or es i d) (take (get_or es i d).count (drop (total (take i es)) ts)) ∷ drop (suc i) (nest es ts)
unfolding nest total sum
nest_at [] ts i d h = absurd (omega arith)
nest_at (e ∷ es) ts zero d h = refl
nest_at (e ∷ es) ts (suc i) d h =
    let s : ℕ = total (take i es) in
    nest_at es (drop e.count ts) i d (omega arith)
    ∙ ap (λ (z : List Held). page_of (get_or es i d) (take (get_or es i d).count z) ∷ drop (suc i) (nest es (drop e.count ts))) (drop-drop s e.count ts)

-- the r entries from i on are exchanged, and their c rows from s on with them: so are r pages
pub nest_replace : (es : List Entry) (ts : List Held) (i r : ℕ) (s c : ℕ) (ms : List Entry) (ws : List Held)
    → s ≡ total (take i es) → s + c ≡ total (take (i + r) es) → s ≤ length ts → length ws ≡ total ms
    → nest (take i es ++ (ms ++ drop (i + r) es)) (take s ts ++ (ws ++ drop (s + c) ts))
    ≡ take i (nest es ts) ++ (nest ms ws ++ drop (i + r) (nest es ts))
nest_replace es ts i r s c ms ws es1 es2 l lw =
    nest_append (take i es) (ms ++ drop (i + r) es) (take s ts) (ws ++ drop (s + c) ts) (length-take-le s ts l ∙ es1)
    ∙ ap (λ (z : List Page). nest (take i es) (take s ts) ++ z) (nest_append ms (drop (i + r) es) ws (drop (s + c) ts) lw)
    ∙ (λ j. (ap (λ (z : ℕ). nest (take i es) (take z ts)) es1 ∙ sym (take_nest i es ts)) j
    ++ (nest ms ws ++ (ap (λ (z : ℕ). nest (drop (i + r) es) (drop z ts)) es2 ∙ sym (drop_nest (i + r) es ts)) j))
