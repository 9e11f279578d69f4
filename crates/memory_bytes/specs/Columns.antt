-- Tests on the numbers of a column, and what searches by groups find.
use Rattle.std.specs.Prelude.{ℕ, ◌+◌, ◌*◌, ◌%◌, ◌≤◌, ◌<◌, ◌≡◌, Bool, true, false, List, length, eqb, leb}
use Rattle.basics.specs.Basics.{any}
use Rattle.basics.specs.Lists.{tab}

-- x is the key
abbrev pub equals : ℕ → ℕ → Bool
equals key x = eqb x key

-- x is not above the key
abbrev pub up_to : ℕ → ℕ → Bool
up_to key x = leb x key

-- x is not below the key
abbrev pub at_least : ℕ → ℕ → Bool
at_least key x = leb key x

-- a slot's number has ten bits; a row's pending operation stands above them
abbrev pub slot_limit : ℕ
slot_limit = 1024

-- x names slot s
abbrev pub names : ℕ → ℕ → Bool
names s x = eqb (x % slot_limit) s

-- f is the test of numbers of four bytes that a closure makes, whose calls are told by call
abbrev pub Tests : (ℕ → Bool → Type 0) → (ℕ → Bool) → Type 0
Tests call f = (x : ℕ) (b : Bool) → x < 4294967296 → call x b → b ≡ f x

-- there are numbers of two bytes from base on, from index s up to, not including, e, and they can be counted in 16 bits
pub record Countable (m : List ℕ) (base s e : ℕ) : Type 0 where
  pub order : s ≤ e
  pub few : e ≤ s + 65535
  pub inside : base + e * 2 ≤ length m

-- every number that is the key, of those from index s up to, not including, e, stands from a up to, not including, b
pub record Covers (g : ℕ → ℕ) (key s e a b : ℕ) : Type 0 where
  pub low : s ≤ a
  pub order : a ≤ b
  pub high : b ≤ e
  pub before : (j : ℕ) → s ≤ j → j < a → equals key (g j) ≡ false
  pub behind : (j : ℕ) → b ≤ j → j < e → equals key (g j) ≡ false

-- every number that is the key, of those from index s up to, not including, e, stands from a up to, not including, b; b is s if there is none,
-- otherwise one of the 16 numbers from a on is the key, and b is at least a + 16
pub record Grouped (g : ℕ → ℕ) (key s e a b : ℕ) : Type 0 where
  pub found : (b ≡ s → ⊥) → (s ≤ a) × ((a + 16 ≤ b) × (any (equals key) (tab g a 16) ≡ true))
  pub high : b ≤ e
  pub before : (j : ℕ) → s ≤ j → j < a → j < e → equals key (g j) ≡ false
  pub behind : (j : ℕ) → s ≤ j → b ≤ j → j < e → equals key (g j) ≡ false
