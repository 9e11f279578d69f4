-- Counts and header, from what the memory holds.
use Rattle.basics.proofs.Kit.{◌≡◌, ap, List, ℕ, suc, ◌+◌, get_or, arith}
use Rattle.model.specs.Checkpoint.{header_for}
use Rattle.memory_layout.specs.Views.{head_of, counts_of}
use Rattle.memory_layout.specs.Flat.{flat_of}
use Rattle.memory_layout.specs.Store.{store_of}
use Rattle.memory_layout.specs.declared.Head.{Head}
use Rattle.memory_layout.specs.declared.Counts.{Counts}
use Rattle.engine_writer.specs.Written.{next_header}
use Rattle.memory_layout.proofs.Laws.{named_read, directories_read}

module _ (m : List ℕ) {c : Counts} (ec : c ≡ counts_of m) where
  -- the header, field by field
  pub header_is : {h : Head} {d0 d1 d2 d3 : ℕ} → h ≡ head_of m
      → d0 ≡ get_or (flat_of m).directories 0 0 → d1 ≡ get_or (flat_of m).directories 1 0
      → d2 ≡ get_or (flat_of m).directories 2 0 → d3 ≡ get_or (flat_of m).directories 3 0
      → record {
        blocks = h.blocks;
        capacity = h.capacity;
        level = h.level + 1;
        next = h.begun;
        pages = c.named;
        directories = c.directories;
        d0 = d0;
        d1 = d1;
        d2 = d2;
        d3 = d3;
      } ≡ next_header (flat_of m)
  unfolding header_for store_of
  header_is {h} eh e0 e1 e2 e3 =
      let l : h.level + 1 ≡ suc (head_of m).level = omega (arith, ap (λ (z : Head). z.level) eh) in
      λ i. record {
        blocks = (eh i).blocks;
        capacity = (eh i).capacity;
        level = l i;
        next = (eh i).begun;
        pages = named_read m ec i;
        directories = directories_read m ec i;
        d0 = e0 i;
        d1 = e1 i;
        d2 = e2 i;
        d3 = e3 i;
      }
