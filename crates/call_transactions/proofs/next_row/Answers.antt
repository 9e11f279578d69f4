-- `call_transactions::next_row` meets its contract: its number is the head's next one, its owner the open transaction.
use Rattle.basics.proofs.Kit.{refl, ap}
use Rattle.block_forms.specs.Tuple.{tentative}
use Rattle.model.specs.State.{Active}
use Rattle.memory_layout.specs.declared.Head.{Head}
use Rattle.call_transactions.proofs.next_row.Goals as goal

pub returns : goal.returns
returns c = let o = c.get_open-o.ensures in
    record {
      key = refl;
      number = ap (λ (x : Head). x.next) c.get_head-h.ensures;
      owner = ap (λ (x : Active). tentative x.transaction x.written) o.0;
      marked = refl;
      pending = refl;
      fits = (o.1.transaction, o.1.written);
    }
