-- Open transactions as values of the code, and a transaction's place among them.
use Rattle.std.specs.Prelude.{ℕ, ◌<◌, List}
use Rattle.block_forms.specs.Limits.{statement_limit, transaction_limit}
use Rattle.basics.specs.Lists.{first_index}
use Rattle.model.specs.State.{Active}
use Rattle.model.specs.Transactions.{is_for}
use Rattle.memory_layout.specs.declared.Open.{Open}

-- an open transaction, as the model has it
abbrev pub active_of : Open → Active
active_of o = record { transaction = o.transaction; written = o.written }

-- its numbers have 12 and 20 bits
pub record OpenFits (o : Open) : Type 0 where
  pub transaction : o.transaction < transaction_limit
  pub written : o.written < statement_limit

-- the place of the first entry of the transaction; how many entries there are, if it has none
abbrev pub find_open : ℕ → List Active → ℕ
find_open tx os = first_index (is_for tx) os
