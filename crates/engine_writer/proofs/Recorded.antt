-- A row of the memory as a record of a page.
use Rattle.basics.proofs.Kit.{◌≡◌, ◌∙◌, Bool, List, ℕ}
use Rattle.block_forms.specs.Tuple.{Tuple}
use Rattle.block_forms.specs.Bytes.{owner_is, tuple_of}
use Rattle.block_forms.specs.declared.Owner.{Owner}
use Rattle.memory_bytes.proofs.Bytes.{part_bytes}
use Rattle.memory_rows.specs.Rows.{Holds}
use Rattle.memory_rows.specs.declared.Part.{Part}
use Rattle.engine_writer.specs.Written.{Spells}

pub row_spells : {m : List ℕ} {x : Tuple} {p : Part} {k n : ℕ} {o : Owner} {d : Bool} → Holds m p x.payload
    → k ≡ x.key → n ≡ x.number → owner_is o ≡ x.owner → d ≡ x.mark
    → Spells m (record { key = k; number = n; owner = o; mark = d; start = p.start; len = p.len }) x
unfolding tuple_of
row_spells {m} {x} {p} holds ek en eo ed =
    let t = part_bytes m p.start p.len holds.inside ∙ holds.here in
    record {
      inside = holds.inside;
      tuple = λ i. record { key = ek i; number = en i; owner = eo i; mark = ed i; payload = t i };
    }
