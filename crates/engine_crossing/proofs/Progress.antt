-- The pass over the rows of a table: what is put out and what is left, at its start, after a run and at its end.
use Rattle.basics.proofs.Kit.{◌≡◌, refl, sym, ap, ◌∙◌, ap₂, ⊎_elim, some, none, Option, List, [], ◌∷◌, ◌++◌, append_assoc, append-nil, ℕ, zero-add, ◌+◌, ◌*◌, ◌≤◌, ◌<◌, ◌/◌, ◌%◌}
use Rattle.basics.proofs.Kit.{length, drop, length-append, arith}
use Rattle.basics.specs.Basics.{if'◌then◌else◌}
use Rattle.basics.specs.Lists.{over}
use Rattle.basics.proofs.Facts.{by}
use Rattle.basics.proofs.Tabs.{lt_or_ge}
use Rattle.basics.proofs.Overs.{over_nil, over_front, length_over, over_then}
use Rattle.image_rows.specs.Rows.{Row}
use Rattle.model.specs.Sight.{seen_of}
use Rattle.model.specs.Crossing.{crosses, key_if, crossing_keys, key_bytes}
use Rattle.memory_layout.specs.Flat.{flat_of, Room}
use Rattle.engine_pages.specs.Pages.{pages_of}
use Rattle.engine_close.specs.Close.{tagged_of, row_from, RunFrom, RunTo}
use Rattle.engine_close.proofs.Memory.{few_tagged}
use Rattle.engine_close.proofs.RunBounds.{whole_run}
use Rattle.model.proofs.RowAfter.{at_split}
use Rattle.engine_crossing.specs.Crossing.{NextCrossing, run_rows, run_keys, RoomForKey, RoomForKeys, RunAdded, KeysFound}
use Rattle.engine_crossing.proofs.Runs.{keys_from, keys_start, Passed, keys_none, keys_skip, keys_run}

-- ---- keys as bytes

pub length_keys : (ks : List ℕ) → length (key_bytes ks) ≡ 4 * length ks
unfolding key_bytes
length_keys [] = refl
length_keys (k ∷ ks) = omega (arith, length_keys ks)

keys_append : (xs ys : List ℕ) → key_bytes (xs ++ ys) ≡ key_bytes xs ++ key_bytes ys
unfolding key_bytes
keys_append [] ys = refl
keys_append (x ∷ xs) ys = ap (λ z. x / 16777216 % 256 ∷ x / 65536 % 256 ∷ x / 256 % 256 ∷ x % 256 ∷ z) (keys_append xs ys)

one_at_most : (first end : ℕ) (o : Option Row) → length (key_if first end o) ≤ 1
unfolding key_if if'◌then◌else◌
one_at_most first end none = omega arith
one_at_most first end (some r) = by (crosses first end r.1) (λ h. rw h (omega arith)) (λ h. rw h (omega arith))

-- ---- the pass

-- Rows before row i are done, and those of the table from there up to row c do not cross: n keys are put out.
pub record Progress (m : List ℕ) (tx t first end : ℕ) (out₀ out : List ℕ) (i c n : ℕ) : Type 0 where
  pub low : i ≤ c
  pub most : i ≤ length (tagged_of m)
  pub few : n ≤ i
  pub passed : Passed m t first end i c
  pub keys : List ℕ
  pub whole : crossing_keys tx t first end (pages_of m) ≡ keys ++ keys_from m tx t first end i
  pub count : n ≡ length keys
  pub here : out ≡ over out₀ 0 (key_bytes keys)

module _ {m : List ℕ} (room : Room m) (tx t first end : ℕ) where
  pub progress_starts : (out : List ℕ) (c : ℕ) → Passed m t first end 0 c → Progress m tx t first end out out 0 c 0
  unfolding key_bytes
  progress_starts out c p =
      record {
        low = omega arith;
        most = omega arith;
        few = omega arith;
        passed = p;
        keys = [];
        whole = keys_start m tx t first end;
        count = refl;
        here = sym (over_nil out 0);
      }

  module _ {out₀ out : List ℕ} {i c n : ℕ} (p : Progress m tx t first end out₀ out i c n) (long : RoomForKeys out₀) where
    pub out_length : length out ≡ length out₀
    out_length =
        ap length p.here ∙ length_over out₀ (key_bytes p.keys) 0 (omega (arith, length_keys p.keys, p.count, p.few, p.most, few_tagged m room))

    -- as long as rows are left there is room for a key
    pub key_room : c < length (tagged_of m) → RoomForKey n out
    key_room h = omega (arith, out_length, p.few, p.low, few_tagged m room)

    -- a run more
    pub progress_next : {a b e n' c' : ℕ} {out' : List ℕ} → RunFrom (tagged_of m) i c a → RunTo (tagged_of m) c b → (row_from (tagged_of m) c).0 ≡ t
        → RunAdded (flat_of m) tx first end a b n n' out out' → NextCrossing (flat_of m) first end b e c' → Progress m tx t first end out₀ out' b c' n'
    progress_next {a} {b} f u e r x =
        let w = whole_run f u in
        let ks = run_keys (flat_of m) tx first end t a b in
        let s = w.some in
        let table : (row_from (tagged_of m) a).0 ≡ t = sym (at_split _ _ _ (w.same _ f.high u.low)).0 ∙ e in
        let l = length_keys p.keys in
        let one = one_at_most first end (seen_of tx (run_rows (flat_of m) t a b)) in
        record {
          low = x.low;
          most = w.most;
          few = omega (arith, r.count t, one, p.few, w.low);
          passed = λ j y z q. x.passed j y z;
          keys = p.keys ++ ks;
          whole = p.whole ∙ ap (λ zs. p.keys ++ zs) (keys_skip room tx t first end w (λ j y z. p.passed j y (omega (arith, f.high))) ∙ keys_run room tx t first end w table)
              ∙ sym (append_assoc p.keys ks _);
          count = r.count t ∙ ap (λ k. k + length ks) p.count ∙ sym (length-append p.keys ks);
          here = r.keys t ∙ ap (λ z. over z (4 * n) (key_bytes ks)) p.here
              ∙ ap (λ z. over (over out₀ 0 (key_bytes p.keys)) z (key_bytes ks)) (sym (zero-add (4 * n)))
              ∙ over_then out₀ (key_bytes p.keys) (key_bytes ks) 0 (4 * n) (omega (arith, p.count)) (omega (arith, p.count, p.few, p.low, w.some, w.most, f.high, w.low, few_tagged m room))
              ∙ ap (over out₀ 0) (sym (keys_append p.keys ks));
        }

    -- no row is left that crosses
    pub progress_ends : Passed m t first end c (length (tagged_of m)) → KeysFound (flat_of m) tx t first end n out₀ out
    progress_ends q =
        let none = keys_none room tx t first end i (λ j x y. ⊎_elim (λ l. p.passed j x l) (λ l. q j l y) (lt_or_ge j c)) in
        let all : crossing_keys tx t first end (pages_of m) ≡ p.keys = p.whole ∙ ap (λ zs. p.keys ++ zs) none ∙ append-nil p.keys in
        let l : length (key_bytes p.keys) ≡ 4 * n = length_keys p.keys ∙ ap (λ k. 4 * k) (sym p.count) in
        record {
          count = p.count ∙ sym (ap length all);
          few = omega (arith, p.few, p.most, few_tagged m room);
          keys = p.here ∙ over_front out₀ (key_bytes p.keys) ∙ ap₂ (λ ks z. key_bytes ks ++ drop z out₀) (sym all) l;
        }
