-- Changes of bytes: some go up, some are written, and the numbers of a column are d more.
use Rattle.basics.proofs.Kit.{◌≡◌, refl, sym, ap, ◌∙◌, subst, ⊎_elim, List, [], ◌∷◌, ℕ, ◌+◌, ◌*◌, ◌%◌, ◌≤◌, ◌<◌, ◌-◌, add-zero, zero-add, length, get_or, set, length-set, get_or-set_same}
use Rattle.basics.proofs.Kit.{get_or-set_other, arith}
use Rattle.memory_bytes.specs.Bytes.{le2, bytes2, Raised, Wrote, Added}
use Rattle.basics.proofs.Tabs.{lt_or_ge}
use Rattle.memory_bytes.proofs.Bytes.{le2_below, le2_above, le2_wrote}

-- one byte is written
pub wrote1 : (m : List ℕ) (a v : ℕ) → a < length m → Wrote m (set m a v) a (v ∷ [])
wrote1 m a v h =
    record {
      apart =
          record {
            size = length-set m a v;
            below = λ b p. get_or-set_other m a b v 0 (λ z. omega arith);
            above = λ b p. get_or-set_other m a b v 0 (λ z. omega arith);
          };
      here = λ k p.
          let e : 0 ≡ k = omega arith in
          subst (λ (z : ℕ). get_or (set m a v) (a + z) 0 ≡ get_or (v ∷ []) z 0) e (rw add-zero (get_or-set_same m a v 0 h));
    }

-- ---- bytes go up by w: those from k on have

pub record Raising (m m' : List ℕ) (hi w k : ℕ) : Type 0 where
  pub size : length m' ≡ length m
  pub done : (b : ℕ) → k ≤ b → b < hi → get_or m' (b + w) 0 ≡ get_or m b 0
  pub left : (b : ℕ) → b < k + w → get_or m' b 0 ≡ get_or m b 0
  pub above : (b : ℕ) → hi + w ≤ b → get_or m' b 0 ≡ get_or m b 0

pub raise_start : (m : List ℕ) (hi w : ℕ) → Raising m m hi w hi
raise_start m hi w = record { size = refl; done = λ b p q. absurd (omega arith); left = λ b p. refl; above = λ b p. refl }

pub raise_iteration : {m m' : List ℕ} {hi w k : ℕ} → Raising m m' hi w k → 0 < k → k ≤ hi → hi + w ≤ length m
    → Raising m (set m' (k - 1 + w) (get_or m' (k - 1) 0)) hi w (k - 1)
raise_iteration {m} {m'} {hi} {w} {k} s h1 h2 h3 =
    let v : ℕ = get_or m' (k - 1) 0 in
    let at : ℕ = k - 1 + w in
    let l : length m' ≡ length m = s.size in
    record {
      size = length-set m' at v ∙ l;
      done = λ b p q. ⊎_elim
          (λ r. get_or-set_other m' at (b + w) v 0 (λ z. omega arith) ∙ s.done b (omega arith) q)
          (λ r.
          let e : b + w ≡ at = omega arith in
          let e2 : k - 1 ≡ b = omega arith in
          ap (λ (z : ℕ). get_or (set m' at v) z 0) e
          ∙ get_or-set_same m' at v 0 (omega arith)
          ∙ s.left (k - 1) (omega arith)
          ∙ ap (λ (z : ℕ). get_or m z 0) e2)
          (lt_or_ge (k - 1) b);
      left = λ b p. get_or-set_other m' at b v 0 (λ z. omega arith) ∙ s.left b (omega arith);
      above = λ b p. get_or-set_other m' at b v 0 (λ z. omega arith) ∙ s.above b p;
    }

pub raise_end : {m m' : List ℕ} {hi w k : ℕ} (lo : ℕ) → Raising m m' hi w k → lo ≤ k → k ≤ lo → lo ≤ hi → Raised m m' lo hi w
raise_end lo s p q r =
    record {
      apart = record { size = s.size; below = λ b h. s.left b (omega arith); above = λ b h. s.above b (omega arith) };
      moved = λ b h1 h2. s.done b (omega arith) h2;
    }

-- ---- bytes are written: the first j of them are

pub record Writing (m m' : List ℕ) (a : ℕ) (xs : List ℕ) (j : ℕ) : Type 0 where
  pub size : length m' ≡ length m
  pub done : (k : ℕ) → k < j → get_or m' (a + k) 0 ≡ get_or xs k 0
  pub below : (b : ℕ) → b < a → get_or m' b 0 ≡ get_or m b 0
  pub above : (b : ℕ) → a + j ≤ b → get_or m' b 0 ≡ get_or m b 0

pub write_start : (m : List ℕ) (a : ℕ) (xs : List ℕ) → Writing m m a xs 0
write_start m a xs = record { size = refl; done = λ k p. absurd (omega arith); below = λ b p. refl; above = λ b p. refl }

pub write_iteration : {m m' : List ℕ} {a : ℕ} {xs : List ℕ} {j v : ℕ} → Writing m m' a xs j → a + j < length m → v ≡ get_or xs j 0
    → Writing m (set m' (a + j) v) a xs (j + 1)
write_iteration {m} {m'} {a} {xs} {j} {v} s h w =
    let l : length m' ≡ length m = s.size in
    record {
      size = length-set m' (a + j) v ∙ l;
      done = λ k p. ⊎_elim
          (λ r. get_or-set_other m' (a + j) (a + k) v 0 (λ z. omega arith) ∙ s.done k r)
          (λ r.
          let e : k ≡ j = omega arith in
          ap (λ (z : ℕ). get_or (set m' (a + j) v) (a + z) 0) e
          ∙ get_or-set_same m' (a + j) v 0 (omega arith)
          ∙ w
          ∙ ap (λ (z : ℕ). get_or xs z 0) (sym e))
          (lt_or_ge k j);
      below = λ b p. get_or-set_other m' (a + j) b v 0 (λ z. omega arith) ∙ s.below b p;
      above = λ b p. get_or-set_other m' (a + j) b v 0 (λ z. omega arith) ∙ s.above b (omega arith);
    }

-- written from the first byte on
pub write_front : {m m' xs : List ℕ} {j v : ℕ} → Writing m m' 0 xs j → j < length m → v ≡ get_or xs j 0 → Writing m (set m' j v) 0 xs (j + 1)
write_front {m} {m'} {xs} {j} {v} s h w = subst (λ (z : ℕ). Writing m (set m' z v) 0 xs (j + 1)) (zero-add j) (write_iteration s (omega arith) w)

pub write_end : {m m' : List ℕ} {a : ℕ} {xs : List ℕ} {j : ℕ} → Writing m m' a xs j → j ≡ length xs → Wrote m m' a xs
write_end s e =
    record {
      apart = record { size = s.size; below = s.below; above = λ b h. s.above b (omega arith) };
      here = λ k h. s.done k (omega arith);
    }

-- ---- numbers of two bytes are d more: those below j are

pub add_start : (m : List ℕ) (base s d : ℕ) → Added m m base s s d
add_start m base s d = record { apart = record { size = refl; below = λ b p. refl; above = λ b p. refl }; each = λ i p q. absurd (omega arith) }

pub add_iteration : {m m' m'' : List ℕ} {base s d : ℕ} (j x : ℕ) {y : ℕ} → Added m m' base s j d → s ≤ j → y ≡ le2 m' (base + j * 2)
    → x ≡ (y + d) % 65536 → Wrote m' m'' (base + j * 2) (bytes2 x) → Added m m'' base s (j + 1) d
add_iteration {m} {m'} {m''} {base} {s} {d} j x {y} p h read sum w =
    record {
      apart =
          record {
            size = w.apart.size ∙ p.apart.size;
            below = λ b k. w.apart.below b (omega arith) ∙ p.apart.below b k;
            above = λ b k. w.apart.above b (omega arith) ∙ p.apart.above b (omega arith);
          };
      each = λ i k l. ⊎_elim
          (λ r. le2_below w.apart (base + i * 2) (omega arith) ∙ p.each i k r)
          (λ r.
          let e : i ≡ j = omega arith in
          let v : y ≡ le2 m (base + j * 2) = read ∙ le2_above p.apart (base + j * 2) (omega arith) in
          ap (λ (z : ℕ). le2 m'' (base + z * 2)) e
          ∙ le2_wrote x (omega arith) w
          ∙ sum
          ∙ ap (λ (z : ℕ). (z + d) % 65536) (v ∙ ap (λ (z : ℕ). le2 m (base + z * 2)) (sym e)))
          (lt_or_ge i j);
    }

pub add_end : {m m' : List ℕ} {base s j d e d' : ℕ} → Added m m' base s j d → j ≡ e → d ≡ d' → Added m m' base s e d'
add_end {m} {m'} {base} {s} {j} {d} {e} {d'} p h k =
    subst (λ (z : ℕ). Added m m' base s e z) k (subst (λ (z : ℕ). Added m m' base s z d) h p)
