-- What holds of the view, the store and its base at any moment between two block stores.
use Rattle.basics.proofs.Kit.{◌≡◌, refl, Bool, true, false, ◌&&◌, not, List, [], ◌∷◌, ◌++◌, map, ℕ, suc, ◌≤◌, ◌<◌, eqb, ltb, length, arith}
use Rattle.basics.specs.Basics.{is_empty, if'◌then◌else◌, is_in, any}
use Rattle.basics.proofs.Facts.{lie, by, AllOf}
use Rattle.block_forms.specs.Block.{page, Block}
use Rattle.block_forms.specs.Limits.{most_number}
use Rattle.image_rows.specs.Rows.{Row, rows_of, rows_ok, is_own}
use Rattle.image.specs.Stages.{StoredPage, rows_of_pages}
use Rattle.image.specs.View.{View}
use Rattle.model.specs.State.{Page, Held, Store, Checkpoint, idle, running}
use Rattle.model.specs.Rules.{fresh, shown}
use Rattle.model.specs.Sight.{rows, held}
use Rattle.model.specs.Transactions.{open_numbers}
use Rattle.model.specs.Checkpoint.{fill}
use Rattle.model.specs.CrashRecovery.{content}
use Rattle.model.specs.Checkpoints.{content_of}
use Rattle.model.proofs.Views.{put}
use Rattle.basics.proofs.Elements.{leb-true, eqb-true, pos_not_zero}
use Rattle.basics.proofs.Members.{test_other}
use Rattle.model.proofs.Frozen.{Content, images}
use Rattle.model.proofs.Recovery.{Found, found_frame}
use Rattle.model.proofs.Stored.{Stored, put_other, Dirs}
use Rattle.model.proofs.Shown.{bare}
use Rattle.model.proofs.Moves.{still_frozen}

-- ---- clean pages

unfoldable pub is_clean : Page → Bool
is_clean p = not p.frozen && ltb 0 p.block

-- a clean page stands in its block, written at a level from 1 to l
abbrev pub Tied : View → ℕ → Page → Type 0
Tied img l p = is_clean p ≡ true → (k : ℕ) × (img p.block ≡ page p.table k (bare p.tuples)) × (0 < k) × (k ≤ l)

pub tied_fresh : (img : View) (l t : ℕ) (ts : List Held) → Tied img l (fresh t ts)
unfolding is_clean fresh
tied_fresh img l t ts e = lie e

pub tied_frozen : (img : View) (l : ℕ) (p : Page) (ts : List Held) → p.frozen ≡ true → Tied img l p → Tied img l (still_frozen p ts)
unfolding is_clean still_frozen
tied_frozen img l p ts h t e = lie e

pub clean_pos : (p : Page) → is_clean p ≡ true → 0 < p.block
unfolding is_clean
clean_pos p e = by p.frozen (λ h. lie (rw (h, is_clean) at e)) (λ h. leb-true 1 p.block (rw (h, is_clean) at e))

-- ---- rows of contents

unfoldable pub listed : List Content → List Row
listed [] = []
listed (c ∷ cs) = rows_of c.0 c.1 ++ listed cs

pub listed_held : (ps : List Page) → listed (map content ps) ≡ held ps
unfolding listed held content
listed_held [] = refl
listed_held (p ∷ ps) = rw (listed_held ps)

pub listed_read : (ps : List StoredPage) → listed (map content_of ps) ≡ rows_of_pages ps
unfolding listed rows_of_pages content_of
listed_read [] = refl
listed_read (p ∷ ps) = rw (listed_read ps)

-- ---- what a begin asks of an idle store

pub record Ready (s : Store) : Type 0 where
  pub thawed : AllOf (λ p. (p.frozen ≡ false) × (shown p.tuples ≡ bare p.tuples)) s.pages
  pub some : AllOf (λ c. is_empty c.1 ≡ false) (map content s.pages)
  pub ok : rows_ok s.capacity s.next (held s.pages) ≡ true
  pub few : length s.pages ≤ s.capacity
  pub most : s.next ≤ most_number
  pub same : rows s.pages ≡ held s.pages

-- ---- where the base's pages stand

-- es names the pages whose blocks were cs: in their block, or, if they had none, in one that was free (0: not yet)
abbrev pub Named : (ℕ → Bool) → List ℕ → List ℕ → Type 0
Named used [] [] = Unit {0}
Named used [] (c ∷ cs) = ⊥
Named used (e ∷ es) [] = ⊥
Named used (e ∷ es) (c ∷ cs) = (0 < c → e ≡ c) × (c ≡ 0 → 0 < e → used e ≡ false) × Named used es cs

pub named_self : (used : ℕ → Bool) (es : List ℕ) → Named used es es
named_self used [] = tt
named_self used (e ∷ es) = (λ h. refl, λ z h. absurd (omega arith), named_self used es)

pub named_fill : (used : ℕ → Bool) (b : ℕ) (es cs : List ℕ) → used b ≡ false → Named used es cs → Named used (fill b es) cs
unfolding fill if'◌then◌else◌
named_fill used b [] [] u n = tt
named_fill used b [] (c ∷ cs) u n = n
named_fill used b (e ∷ es) [] u n = absurd n
named_fill used b (e ∷ es) (c ∷ cs) u n =
    by (eqb e 0) (λ k. let z = eqb-true e 0 k in rw k (λ h. absurd (omega (arith, n.0 h)), λ q h. u, n.2))
    (λ k. rw k (n.0, n.1, named_fill used b es cs u n.2))

-- ---- the view recovers to the base

-- r is b as it is compared: the transactions of b's tentative rows are those open
pub record Like (r b : Store) : Type 0 where
  pub pages : map content r.pages ≡ map content b.pages
  pub next : r.next ≡ b.next
  pub names : Named b.used (map (λ p. p.block) r.pages) (map (λ p. p.block) b.pages)
  pub active : (tx : ℕ) → is_in tx (open_numbers r.active) ≡ any (is_own tx) (rows b.pages)

-- used: blocks in use, among which are all that recovery reads
pub record Good (n : ℕ) (img : View) (used : ℕ → Bool) (b : Store) : Type 0 where
  pub back : Store
  pub found : Found n img back
  pub like : Like back b
  pub names : (c : ℕ) → back.used c ≡ true → used c ≡ true

-- a block that is neither 0 nor in use may hold anything
pub good_put : (n : ℕ) (img : View) (used : ℕ → Bool) (b : Store) (i : ℕ) (x : Block) → 0 < i → used i ≡ false → Good n img used b
    → Good n (put img i x) used b
good_put n img used b i x p h g =
    record {
      back = g.back;
      found = found_frame img (put img i x) n g.back g.found (put_other img i x 0 (pos_not_zero i p))
          (λ c u. put_other img i x c (test_other used c i (g.names c u) h));
      like = g.like;
      names = g.names;
    }

pub good_more : (n : ℕ) (img : View) (used used' : ℕ → Bool) (b : Store) → ((c : ℕ) → used c ≡ true → used' c ≡ true) → Good n img used b
    → Good n img used' b
good_more n img used used' b f g = record { back = g.back; found = g.found; like = g.like; names = λ c u. f c (g.names c u) }

-- ---- a running checkpoint

-- b was the store at begin, with the next number n: it could begin, and had the capacity c, the level l and k blocks
pub record Base (c l k n : ℕ) (b : Store) : Type 0 where
  pub next : n ≡ b.next
  pub ready : Ready b
  pub capacity : b.capacity ≡ c
  pub level : b.level ≡ l
  pub blocks : b.blocks ≡ k

pub record Run (img : View) (s b : Store) (n₀ : ℕ) (es ds : List ℕ) : Type 0 where
  pub base : Base s.capacity s.level s.blocks n₀ b
  pub stored : Stored img (suc s.level) es (map content b.pages) (images s.pages)
  pub dirs : Dirs img (suc s.level) es ds
  pub used : (c : ℕ) → b.used c ≡ true → s.used c ≡ true
  pub names : Named b.used es (map (λ p. p.block) b.pages)
  pub tied : AllOf (Tied img (suc s.level)) s.pages

abbrev pub Phase : View → Store → Store → Checkpoint → Type 0
Phase img s b idle = AllOf (Tied img s.level) s.pages
Phase img s b (running n₀ es ds) = Run img s b n₀ es ds

-- s: the store; b: what it was before the last accepted begin; b₀: what it was before the begin of the last landed checkpoint
pub record Inv (n : ℕ) (img : View) (s b b₀ : Store) : Type 0 where
  pub blocks : s.blocks ≡ n
  pub good : Good n img s.used b₀
  pub phase : Phase img s b s.checkpoint
