-- What a call answers to C: one number.
use Rattle.std.specs.Prelude.{◌≡◌, ℕ, min, ℤ, pos, neg_ℤ, Ok, Err}
use Rattle.basics.specs.Basics.{if'◌then◌else◌}
use Rattle.refusals.specs.Numbers.{number}
use Rattle.call_contracts.specs.Shape.{Answer, is_accepted}
use Rattle.call_contracts.specs.declared.Reply.TheVariants.{Done, Count, Filled}
use Rattle.call_contracts.specs.declared.Logged.{Logged}

-- n, or the largest number of 64 bits with a sign if n is larger; every answer and refusal is far below
unfoldable pub clamped : ℕ → ℕ
clamped n = min n 9223372036854775807

-- the call's answer, 0 where none is named, or minus the refusal's number
unfoldable pub code : Answer → ℤ
code (Ok Done) = pos 0
code (Ok (Count n)) = pos (clamped n)
code (Ok (Filled n)) = pos (clamped n)
code (Err e) = neg_ℤ (pos (clamped (number e)))

-- x is the number of an answer for which this holds
pub record Coded (x : ℤ) (Holds : Answer → Type 0) : Type 0 where
  pub answer : Answer
  pub holds : Holds answer
  pub number : x ≡ code answer

-- x is the number, and e the end, of a logged answer for which this holds
pub record CodedLog (x : ℤ) (e : ℕ) (Holds : Logged → Type 0) : Type 0 where
  pub answer : Logged
  pub holds : Holds answer
  pub number : x ≡ code answer.answer
  pub end : e ≡ answer.end

-- the number behind the pointer after a roll-forward: its end if it was accepted, else what it was
unfoldable pub end_after : Answer → ℕ → ℕ → ℕ
end_after a new old = if' is_accepted a then new else old

-- x is the number, and e' what e becomes, of a roll-forward's answer for which this holds
pub record CodedForward (x : ℤ) (e e' : ℕ) (Holds : Logged → Type 0) : Type 0 where
  pub answer : Logged
  pub holds : Holds answer
  pub number : x ≡ code answer.answer
  pub end : e' ≡ end_after answer.answer answer.end e
