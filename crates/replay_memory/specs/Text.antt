-- The line that an answer is printed as.
use Rattle.std.specs.Prelude.{ℕ, List, ◌++◌, codes, decimal, Ok, Err}
use Rattle.refusals.specs.Numbers.{number}
use Rattle.call_contracts.specs.Shape.{Answer}
use Rattle.call_contracts.specs.declared.Reply.TheVariants.{Done, Count, Filled}

abbrev pub answer_text : Answer → List ℕ
answer_text (Ok Done) = codes "done\n"
answer_text (Ok (Count n)) = decimal n ++ codes "\n"
answer_text (Ok (Filled n)) = decimal n ++ codes "\n"
answer_text (Err e) = codes "refused " ++ decimal (number e) ++ codes "\n"
