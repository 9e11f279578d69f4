-- The shape of every public contract: what a call answers and leaves, by the model's function.
use Rattle.std.specs.Prelude.{◌≡◌, Bool, true, false, List, [], ◌++◌, ℕ, length, drop, Result, Ok, Err}
use Rattle.std.proofs.Math.Option.{Option, none, some}
use Rattle.image.specs.Stages.{Stage, refuses, holds}
use Rattle.model.specs.State.{Store, Outcome}
use Rattle.model.specs.Recover.{image_after, make, made_image, recover}
use Rattle.memory_layout.specs.Store.{store_in, HoldsNow}
use Rattle.refusals.specs.declared.Refusal.{Refusal}
use Rattle.refusals.specs.Numbers.{number}
use Rattle.call_contracts.specs.declared.Reply.{Reply}
use Rattle.call_contracts.specs.declared.Reply.TheVariants.{Done, Count, Filled}
use Rattle.model.specs.State as model

-- what every call answers
abbrev pub Answer : Type 0
Answer = Result Reply Refusal

-- the model's answer that an answer stands for, where bs are the bytes put into the reply
abbrev pub meaning : Answer → List ℕ → model.Answer
meaning (Ok Done) bs = model.done
meaning (Ok (Count n)) bs = model.count n
meaning (Ok (Filled n)) bs = model.filled n bs
meaning (Err e) bs = model.refused (number e)

-- no refusal
unfoldable pub is_accepted : Answer → Bool
is_accepted (Ok r) = true
is_accepted (Err e) = false

-- the bytes that an answer puts into the reply
abbrev pub bytes_of : model.Answer → List ℕ
bytes_of (model.refused n) = []
bytes_of model.done = []
bytes_of (model.count n) = []
bytes_of (model.filled n bs) = bs

-- ---- calls that change the memory

-- refused: as found; accepted: as long, and it holds the store s
abbrev pub MemoryAfter : model.Answer → Store → List ℕ → List ℕ → Type 0
MemoryAfter (model.refused n) s m m' = m' ≡ m
MemoryAfter model.done s m m' = HoldsNow m m' s
MemoryAfter (model.count n) s m m' = HoldsNow m m' s
MemoryAfter (model.filled n bs) s m m' = HoldsNow m m' s

-- the answer is the outcome's, and so is what the memory holds
pub record Afterwards (o : Outcome) (m : List ℕ) (r : Answer) (m' : List ℕ) : Type 0 where
  pub answer : meaning r (bytes_of o.answer) ≡ o.answer
  pub memory : MemoryAfter o.answer o.store m m'

-- without a store: 4
unfoldable pub AnswersAt : Option Store → (Store → Outcome) → List ℕ → Answer → List ℕ → Type 0
AnswersAt none call m r m' = (meaning r [] ≡ model.refused 4) × (m' ≡ m)
AnswersAt (some s) call m r m' = Afterwards (call s) m r m'

-- the call on the memory m answers r and leaves m'
unfoldable pub Answers : (Store → Outcome) → List ℕ → Answer → List ℕ → Type 0
Answers call m r m' = AnswersAt (store_in m) call m r m'

-- ---- calls that fill a reply; the memory is only read

-- the reply p becomes p': its first bytes are those of the answer, the others stay
pub record Told (o : Outcome) (r : Answer) (p p' : List ℕ) : Type 0 where
  pub answer : meaning r (bytes_of o.answer) ≡ o.answer
  pub reply : p' ≡ bytes_of o.answer ++ drop (length (bytes_of o.answer)) p

-- without a store: 4, and the reply stays
unfoldable pub RepliesAt : Option Store → (Store → Outcome) → Answer → List ℕ → List ℕ → Type 0
RepliesAt none call r p p' = (meaning r [] ≡ model.refused 4) × (p' ≡ p)
RepliesAt (some s) call r p p' = Told (call s) r p p'

-- the call on the memory m answers r and makes p' of the reply p
unfoldable pub Replies : (Store → Outcome) → List ℕ → Answer → List ℕ → List ℕ → Type 0
Replies call m r p p' = RepliesAt (store_in m) call r p p'

-- ---- calls that store blocks in the image

-- the answer, the memory and the image are the outcome's
pub record StoredBy (o : Outcome) (img m : List ℕ) (r : Answer) (img' m' : List ℕ) : Type 0 where
  pub answer : meaning r (bytes_of o.answer) ≡ o.answer
  pub memory : MemoryAfter o.answer o.store m m'
  pub image : img' ≡ image_after o.writes img

-- without a store: 4, and image and memory stay
unfoldable pub StoresAt : Option Store → (Store → Outcome) → List ℕ → List ℕ → Answer → List ℕ → List ℕ → Type 0
StoresAt none call img m r img' m' = (meaning r [] ≡ model.refused 4) × ((img' ≡ img) × (m' ≡ m))
StoresAt (some s) call img m r img' m' = StoredBy (call s) img m r img' m'

-- the call on the image img and the memory m answers r and leaves img' and m'
unfoldable pub Stores : (Store → Outcome) → List ℕ → List ℕ → Answer → List ℕ → List ℕ → Type 0
Stores call img m r img' m' = StoresAt (store_in m) call img m r img' m'

-- ---- make and recover

-- refused: image and memory as found; else block 0 of the image is written, and the memory holds the fresh store
unfoldable pub MadeBy : Stage Store → ℕ → List ℕ → List ℕ → Answer → List ℕ → List ℕ → Type 0
MadeBy (refuses k) n img m r img' m' = (meaning r [] ≡ model.refused k) × ((img' ≡ img) × (m' ≡ m))
MadeBy (holds s) n img m r img' m' = (meaning r [] ≡ model.done) × ((img' ≡ made_image img n) × (HoldsNow m m' s))

-- a store of capacity n is made in image and memory
abbrev pub Made : ℕ → List ℕ → List ℕ → Answer → List ℕ → List ℕ → Type 0
Made n img m r img' m' = MadeBy (make (length img) (length m) n) n img m r img' m'

-- refused: the memory as found; else it holds the recovered store
unfoldable pub RecoveredBy : Stage Store → List ℕ → Answer → List ℕ → Type 0
RecoveredBy (refuses k) m r m' = (meaning r [] ≡ model.refused k) × (m' ≡ m)
RecoveredBy (holds s) m r m' = (meaning r [] ≡ model.done) × (HoldsNow m m' s)

-- the image is recovered into the memory m
abbrev pub Recovered : List ℕ → List ℕ → Answer → List ℕ → Type 0
Recovered img m r m' = RecoveredBy (recover (length m) img) m r m'
