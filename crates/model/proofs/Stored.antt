-- The running checkpoint's entries, the base's pages and the blocks written: what holds all along, and what is read back at the end.
use Rattle.block_forms.specs.Limits.{entries_per_block}
use Rattle.basics.proofs.Kit.{◌≡◌, refl, ◌∙◌, subst, false, some, List, [], ◌∷◌, ◌++◌, map, ℕ, suc, ◌+◌, ◌*◌, ◌≤◌, ◌<◌, ◌-◌, min, eqb, length, take, drop, length-take, length-drop}
use Rattle.basics.proofs.Kit.{take-append-drop, drop-drop, arith}
use Rattle.basics.specs.Basics.{if'◌then◌else◌, is_in, is_empty}
use Rattle.basics.proofs.Facts.{by, AllOf}
use Rattle.block_forms.specs.Block.{Block, page, directory}
use Rattle.image.specs.Stages.{StoredPage, read_pages, add_page, page_ok, read_directories, entries_due, add_entries}
use Rattle.image.specs.View.{View}
use Rattle.model.specs.Checkpoint.{fill, block_entries}
use Rattle.model.specs.Checkpoints.{content_of}
use Rattle.model.proofs.Views.{put}
use Rattle.basics.proofs.Elements.{eqb_self, not_in, eqb-true, le_true}
use Rattle.model.proofs.Frozen.{Content}

pub put_same : (img : View) (b : ℕ) (x : Block) → put img b x b ≡ x
unfolding put if'◌then◌else◌
put_same img b x = rw (eqb_self b)

pub put_other : (img : View) (b : ℕ) (x : Block) (i : ℕ) → eqb b i ≡ false → put img b x i ≡ img i
unfolding put if'◌then◌else◌
put_other img b x i h = rw h

-- ---- the entries: 0 for a page still to be written, whose image is next among `is`; else its block, which holds its content

pub data Stored (img : View) (l : ℕ) : List ℕ → List Content → List Content → Type 0 where
  end : Stored img l [] [] []
  todo : {es : List ℕ} {cs is : List Content} {c : Content} → Stored img l es cs is → Stored img l (0 ∷ es) (c ∷ cs) (c ∷ is)
  stands : {es : List ℕ} {cs is : List Content} {c : Content} {e : ℕ} (k : ℕ) → 0 < e → img e ≡ page c.0 k c.1 → 0 < k → k ≤ l
      → Stored img l es cs is → Stored img l (e ∷ es) (c ∷ cs) is

pub stored_put : {img : View} {l : ℕ} {es : List ℕ} {cs is : List Content} (b : ℕ) (x : Block) → is_in b es ≡ false → Stored img l es cs is
    → Stored (put img b x) l es cs is
stored_put b x h end = end
stored_put b x h (todo {es = es} r) = todo (stored_put b x (not_in b 0 es h).1 r)
stored_put {img} b x h (stands {es = es} {e = e} k p q u v r) =
    let n = not_in b e es h in stands k p (put_other img b x e n.0 ∙ q) u v (stored_put b x n.1 r)

-- the first page still to be written is written
pub stored_fill : {img : View} {l : ℕ} {es : List ℕ} {cs : List Content} (b : ℕ) (c : Content) (js : List Content) (is : List Content) → js ≡ c ∷ is
    → 0 < b → 0 < l → img b ≡ page c.0 l c.1 → Stored img l es cs js → Stored img l (fill b es) cs is
unfolding fill if'◌then◌else◌
stored_fill b c js is e p u q end = let z : ◌≡◌ {A = ℕ} 0 1 = cc in absurd (omega arith)
stored_fill {img} {l} b c js is e p u q (todo {es = es} {cs = cs} {is = is'} {c = d} r) =
    let k : d ≡ c = cc in
    let m : is' ≡ is = cc in
    subst (λ j. Stored img l (b ∷ es) (d ∷ cs) j) m (stands l p (q ∙ rw k) u (omega arith) r)
stored_fill b c js is e p u q (stands {e = d} k v w x y r) =
    by (eqb d 0) (λ h. let z = eqb-true d 0 h in absurd (omega arith)) (λ h. rw h (stands k v w x y (stored_fill b c js is e p u q r)))

-- all written: recovery reads the base's pages
pub stored_read : {img : View} {l : ℕ} {es : List ℕ} {cs is : List Content} → is ≡ [] → AllOf (λ c. is_empty c.1 ≡ false) cs → Stored img l es cs is
    → (ps : List StoredPage) × (read_pages img l es ≡ some ps) × (map content_of ps ≡ cs)
unfolding read_pages add_page content_of page_ok if'◌then◌else◌
stored_read e s end = ([], refl, refl)
stored_read e s (todo r) = let z : ◌≡◌ {A = ℕ} 0 1 = cc in absurd (omega arith)
stored_read {img} {l} e s (stands {c = c} {e = b} k p q u v r) =
    let t = stored_read e s.1 r in (
      record { block = b; table = c.0; tuples = c.1 } ∷ t.0,
      rw (q, s.0, le_true 1 k u, le_true k l v, t.1),
      rw t.2,
    )

pub stored_written : {img : View} {l : ℕ} {es : List ℕ} {cs is : List Content} → is ≡ [] → Stored img l es cs is → AllOf (λ e. 0 < e) es
stored_written e end = tt
stored_written e (todo r) = let z : ◌≡◌ {A = ℕ} 0 1 = cc in absurd (omega arith)
stored_written e (stands k p q u v r) = (p, stored_written e r)

-- ---- the directory blocks

abbrev pub Dirs : View → ℕ → List ℕ → List ℕ → Type 0
Dirs img l es [] = Unit {0}
Dirs img l es (d ∷ ds) = (img d ≡ directory l (take entries_per_block es)) × Dirs img l (drop entries_per_block es) ds

pub dirs_put : (img : View) (l b : ℕ) (x : Block) (es ds : List ℕ) → is_in b ds ≡ false → Dirs img l es ds → Dirs (put img b x) l es ds
dirs_put img l b x es [] h r = tt
dirs_put img l b x es (d ∷ ds) h r = let n = not_in b d ds h in (put_other img b x d n.0 ∙ r.0, dirs_put img l b x (drop entries_per_block es) ds n.1 r.1)

pub dirs_snoc : (img : View) (l b : ℕ) (es ds : List ℕ) → img b ≡ directory l (block_entries (length ds) es) → Dirs img l es ds
    → Dirs img l es (ds ++ b ∷ [])
dirs_snoc img l b es [] h r = (h, tt)
dirs_snoc img l b es (d ∷ ds) h r =
    let m : entries_per_block + entries_per_block * length ds ≡ entries_per_block * suc (length ds) = omega arith in
    (r.0, dirs_snoc img l b (drop entries_per_block es) ds (h ∙ rw (drop-drop, m)) r.1)

pub dirs_read : (img : View) (l : ℕ) (es ds : List ℕ) → length es ≤ entries_per_block * length ds → Dirs img l es ds
    → read_directories img l (length es) ds ≡ some es
unfolding read_directories entries_due add_entries if'◌then◌else◌
dirs_read img l [] [] h r = refl
dirs_read img l (e ∷ es) [] h r = absurd (omega arith)
dirs_read img l es (d ∷ ds) h r =
    let m : length (take entries_per_block es) ≡ min entries_per_block (length es) = length-take entries_per_block es in
    let i = dirs_read img l (drop entries_per_block es) ds (simp length-drop (omega arith)) r.1 in
    let j : length (drop entries_per_block es) ≡ length es - entries_per_block = length-drop entries_per_block es in
    rw (r.0, eqb_self l, m, eqb_self, ← j, i, take-append-drop)
