-- From the bytes that a function leaves to one equation on the flat lists: everything but some parts is as it was.
use Rattle.image_rows.specs.Rows.{open_limit}
use Rattle.basics.proofs.Kit.{◌≡◌, refl, ap, ◌∙◌, Bool, List, ℕ, ◌+◌, ◌*◌, ◌≤◌, ◌<◌, length, arith, ◌-◌}
use Rattle.memory_bytes.specs.Bytes.{Apart}
use Rattle.basics.specs.Lists.{tab}
use Rattle.model.specs.State.{Active, Held}
use Rattle.memory_layout.specs.Views.{head_of, counts_of, row_count, table_end, page_count, is_used, row_at, start_at, entry_at, named_block, directory_count, named_count, open_count}
use Rattle.memory_layout.specs.Flat.{Flat, flat_of, capacity_of, opens_of, rows_of, entries_of, named_of, directories_of, Room, InRange, Replaces, Becomes, with_head, with_opens, with_named}
use Rattle.memory_layout.specs.Flat.{with_directories, with_used, with_rows, with_entries}
use Rattle.memory_layout.specs.declared.Head.{Head}
use Rattle.memory_layout.specs.declared.Entry.{Entry}
use Rattle.memory_layout.proofs.Frame.{Same, Behind, same4, within2, same_head, same_opens, same_named, same_directories, same_used, same_rows, same_start, same_entries}
use Rattle.memory_layout.specs.Places.{directories_at, head_size, named_at, opens_at, starts_at, tables_at, used_at}

-- ---- bytes that one write after another leaves

pub same_below : {m m' : List ℕ} {a n : ℕ} (b k : ℕ) → Apart m m' a n → b + k ≤ a → Same m m' b k
same_below b k s h c p q = s.below c (omega arith)

pub same_above : {m m' : List ℕ} {a n : ℕ} (b k : ℕ) → Apart m m' a n → a + n ≤ b → Same m m' b k
same_above b k s h c p q = s.above c (omega arith)

-- two writes side by side
pub apart_then : {m m1 m2 : List ℕ} {a n : ℕ} (k : ℕ) → Apart m m1 a n → Apart m1 m2 (a + n) k → Apart m m2 a (n + k)
apart_then k s t =
    record {
      size = t.size ∙ s.size;
      below = λ b h. t.below b (omega arith) ∙ s.below b h;
      above = λ b h. t.above b (omega arith) ∙ s.above b (omega arith);
    }

-- ---- all parts: what each is, and that it is in its range

-- the pages: their entries, and what room asks of them
pub record PagesAre (m m' : List ℕ) (es : List Entry) : Type 0 where
  pub entries : tab (entry_at m' (capacity_of m)) 0 (page_count m') ≡ es
  pub few : page_count m' ≤ 2 * capacity_of m
  pub tables : (t : ℕ) → t < 7 → table_end m' t ≤ table_end m' (t + 1)
  pub begins : start_at m' (capacity_of m) 0 ≡ 0
  pub rises : (p : ℕ) → p < page_count m' → start_at m' (capacity_of m) p ≤ start_at m' (capacity_of m) (p + 1)

record Parts (m m' : List ℕ) (f : Flat) : Type 0 where
  size : length m' ≡ length m
  sign : Same m m' 0 4
  head : Replaces (head_of m) f.head × (head_of m' ≡ f.head)
  opens : (open_count m' ≤ open_limit) × (opens_of m' ≡ f.opens)
  rows : (row_count m' ≤ capacity_of m) × (tab (row_at m' (capacity_of m)) 0 (row_count m') ≡ f.rows)
  pages : PagesAre m m' f.entries
  named : (named_count m' ≤ capacity_of m) × (tab (named_block m' (capacity_of m)) 0 (named_count m') ≡ f.named)
  directories : (directory_count m' ≤ 4) × (directories_of m' ≡ f.directories)
  used : is_used m' ≡ f.used

-- the bytes that say neither rows nor pages
pub record Rest (m m' : List ℕ) : Type 0 where
  pub size : length m' ≡ length m
  pub head : Same m m' 0 32
  pub counts : Same m m' 36 28
  pub lists : Same m m' 80 944
  pub named : Behind m m' (named_at (capacity_of m))

module _ (m m' : List ℕ) (room : Room m) where
  becomes_by : {f : Flat} → Parts m m' f → Becomes m m' f
  unfolding head_of counts_of rows_of entries_of named_of
  becomes_by {f} s =
      let g : InRange (length m) (head_of m) (counts_of m) = room.range in
      let rep = s.head.0 in
      let eh = s.head.1 in
      let p = s.pages in
      let c : capacity_of m' ≡ capacity_of m = ap (λ (x : Head). x.capacity) eh ∙ rep.capacity in
      let e1 = ap (λ (x : Head). x.blocks) eh in
      let e2 = ap (λ (x : Head). x.taken) eh in
      let er : rows_of m' ≡ f.rows = ap (λ (z : ℕ). tab (row_at m' z) 0 (row_count m')) c ∙ s.rows.1 in
      let ee : entries_of m' ≡ f.entries = ap (λ (z : ℕ). tab (entry_at m' z) 0 (page_count m')) c ∙ p.entries in
      let en : named_of m' ≡ f.named = ap (λ (z : ℕ). tab (named_block m' z) 0 (named_count m')) c ∙ s.named.1 in
      record {
        size = s.size;
        room = record {
          sign = same4 m m' 0 s.sign ∙ room.sign;
          range = record {
            least = omega (arith, g.least);
            most = omega (arith, g.most);
            long = omega (arith, s.size, g.long);
            few = omega (arith, rep.few);
            many = omega (arith, rep.many);
            taken = omega (arith, rep.taken);
            rows = omega (arith, s.rows.0);
            pages = omega (arith, p.few);
            opens = s.opens.0;
            named = omega (arith, s.named.0);
            directories = s.directories.0;
          };
          tables = p.tables;
          begins = ap (λ (z : ℕ). start_at m' z 0) c ∙ p.begins;
          rises = λ q h. omega (arith, p.rises q h, ap (λ (z : ℕ). start_at m' z q) c, ap (λ (z : ℕ). start_at m' z (q + 1)) c);
        };
        flat = λ i. record { head = eh i; opens = s.opens.1 i; rows = er i; entries = ee i; named = en i; directories = s.directories.1 i; used = s.used i };
      }

  -- ---- each part is as it was, if its bytes are

  kept_head : Same m m' 4 28 → Replaces (head_of m) (head_of m) × (head_of m' ≡ head_of m)
  kept_head s =
      let g : InRange (length m) (head_of m) (counts_of m) = room.range in
      (record { capacity = refl; few = g.few; many = g.many; taken = g.taken }, same_head m m' s)

  kept_opens : Same m m' 36 4 → Same m m' opens_at (open_limit * 4) → (open_count m' ≤ open_limit) × (opens_of m' ≡ opens_of m)
  unfolding counts_of
  kept_opens s t = let b : open_count m ≤ open_limit = room.range.opens in (omega (arith, same4 m m' 36 s), same_opens m m' s t b)

  pub kept_rows : Same m m' 32 4 → Same m m' head_size (capacity_of m * 79) → (row_count m' ≤ capacity_of m) × (tab (row_at m' (capacity_of m)) 0 (row_count m') ≡ rows_of m)
  unfolding rows_of head_of counts_of
  kept_rows s t =
      let c : ℕ = capacity_of m in
      let e : row_count m' ≡ row_count m = same4 m m' 32 s in
      let r : row_count m ≤ c = room.range.rows in
      (omega arith, ap (tab (row_at m' c) 0) e ∙ same_rows m m' c (row_count m) room.range.least r t)

  -- where the pages end and start as they did
  pub pages_are : {es : List Entry} → ((k : ℕ) → k < 8 → table_end m' k ≡ table_end m k) → ((p : ℕ) → start_at m' (capacity_of m) p ≡ start_at m (capacity_of m) p)
      → tab (entry_at m' (capacity_of m)) 0 (page_count m') ≡ es → PagesAre m m' es
  unfolding head_of counts_of
  pages_are ends start e =
      record {
        entries = e;
        few = omega (arith, room.range.pages, ends 7 (omega arith));
        tables = λ k b. omega (arith, room.tables k b, ends k (omega arith), ends (k + 1) (omega arith));
        begins = start 0 ∙ room.begins;
        rises = λ p b. omega (arith, start p, start (p + 1), room.rises p (omega (arith, ends 7 (omega arith))));
      }

  pub kept_pages : Same m m' 32 4 → Same m m' tables_at 16 → Same m m' (starts_at (capacity_of m)) (capacity_of m * 8) → PagesAre m m' (entries_of m)
  unfolding entries_of head_of counts_of
  kept_pages s t u =
      let c : ℕ = capacity_of m in
      let ends : (k : ℕ) → k < 8 → table_end m' k ≡ table_end m k = λ k b. within2 m m' tables_at 16 (64 + k * 2) t (omega arith) (omega arith) in
      let most : page_count m ≤ 2 * c = room.range.pages in
      pages_are ends (λ p. same_start m m' c p (ends 7 (omega arith)) (same4 m m' 32 s) most (λ b x y. u b x (omega arith))) (same_entries m m' c s t most u)

  kept_named : Same m m' 40 4 → Behind m m' (named_at (capacity_of m)) → (named_count m' ≤ capacity_of m) × (tab (named_block m' (capacity_of m)) 0 (named_count m') ≡ named_of m)
  unfolding counts_of head_of named_of
  kept_named s t =
      let b : named_count m ≤ capacity_of m = room.range.named in
      (omega (arith, same4 m m' 40 s), same_named m m' (capacity_of m) s t)

  kept_directories : Same m m' 44 4 → Same m m' directories_at 16 → (directory_count m' ≤ 4) × (directories_of m' ≡ directories_of m)
  unfolding counts_of
  kept_directories s t = let b : directory_count m ≤ 4 = room.range.directories in (omega (arith, same4 m m' 44 s), same_directories m m' s t b)

  -- ---- rows and pages changed, all others as they were

  pub becomes_rest : {hs : List Held} {es : List Entry} → Rest m m' → (row_count m' ≤ capacity_of m) × (tab (row_at m' (capacity_of m)) 0 (row_count m') ≡ hs)
      → PagesAre m m' es → Becomes m m' (with_entries (with_rows (flat_of m) hs) es)
  becomes_rest s rows pages =
      let h = s.head in
      let k = s.counts in
      let l = s.lists in
      becomes_by (record {
        size = s.size;
        sign = λ b p q. h b p (omega arith);
        head = kept_head (λ b p q. h b (omega arith) (omega arith));
        opens = kept_opens (λ b p q. k b p (omega arith)) (λ b p q. l b (omega arith) (omega arith));
        rows = rows;
        pages = pages;
        named = kept_named (λ b p q. k b (omega arith) (omega arith)) s.named;
        directories = kept_directories (λ b p q. k b (omega arith) (omega arith)) (λ b p q. l b (omega arith) (omega arith));
        used = same_used m m' (λ b p q. l b (omega arith) (omega arith));
      })

  -- ---- one other part changed

  module _ (size : length m' ≡ length m) where
    becomes_kept : {h : Head} {os : List Active} {ns ds : List ℕ} {u : ℕ → Bool} → Same m m' 0 4 → Same m m' 32 4 → Same m m' tables_at 16 → Same m m' head_size (named_at (capacity_of m) - head_size)
        → Replaces (head_of m) h × (head_of m' ≡ h) → (open_count m' ≤ open_limit) × (opens_of m' ≡ os)
        → (named_count m' ≤ capacity_of m) × (tab (named_block m' (capacity_of m)) 0 (named_count m') ≡ ns) → (directory_count m' ≤ 4) × (directories_of m' ≡ ds) → is_used m' ≡ u
        → Becomes m m' (record { head = h; opens = os; rows = rows_of m; entries = entries_of m; named = ns; directories = ds; used = u })
    becomes_kept s r t c h o n d u =
        becomes_by (record {
          size = size;
          sign = s;
          head = h;
          opens = o;
          rows = kept_rows r (λ b p q. c b p (omega arith));
          pages = kept_pages r t (λ b p q. c b (omega arith) (omega arith));
          named = n;
          directories = d;
          used = u;
        })

    pub becomes_head : {h : Head} → Same m m' 0 4 → Behind m m' 32 → Replaces (head_of m) h → head_of m' ≡ h → Becomes m m' (with_head (flat_of m) h)
    becomes_head s t rep eh =
        becomes_kept s (λ b p q. t b p) (λ b p q. t b (omega arith)) (λ b p q. t b (omega arith)) (rep, eh)
        (kept_opens (λ b p q. t b (omega arith)) (λ b p q. t b (omega arith)))
        (kept_named (λ b p q. t b (omega arith)) (λ b p. t b (omega arith)))
        (kept_directories (λ b p q. t b (omega arith)) (λ b p q. t b (omega arith)))
        (same_used m m' (λ b p q. t b (omega arith)))

    pub becomes_opens : {os : List Active} → Same m m' 0 36 → Same m m' 40 88 → Behind m m' 384 → open_count m' ≤ open_limit → opens_of m' ≡ os
        → Becomes m m' (with_opens (flat_of m) os)
    becomes_opens s t r b e =
        becomes_kept (λ b p q. s b p (omega arith)) (λ b p q. s b (omega arith) q) (λ b p q. t b (omega arith) (omega arith)) (λ b p q. r b (omega arith))
        (kept_head (λ b p q. s b (omega arith) (omega arith))) (b, e)
        (kept_named (λ b p q. t b p (omega arith)) (λ b p. r b (omega arith)))
        (kept_directories (λ b p q. t b (omega arith) (omega arith)) (λ b p q. t b (omega arith) (omega arith)))
        (same_used m m' (λ b p q. r b (omega arith)))

    pub becomes_named : {ns : List ℕ} → Same m m' 0 40 → Same m m' 44 (named_at (capacity_of m) - 44) → named_count m' ≤ capacity_of m
        → tab (named_block m' (capacity_of m)) 0 (named_count m') ≡ ns → Becomes m m' (with_named (flat_of m) ns)
    becomes_named s t b e =
        becomes_kept (λ b p q. s b p (omega arith)) (λ b p q. s b (omega arith) (omega arith)) (λ b p q. t b (omega arith) (omega arith))
        (λ b p q. t b (omega arith) (omega arith)) (kept_head (λ b p q. s b (omega arith) (omega arith)))
        (kept_opens (λ b p q. s b (omega arith) q) (λ b p q. t b (omega arith) (omega arith))) (b, e)
        (kept_directories (λ b p q. t b p (omega arith)) (λ b p q. t b (omega arith) (omega arith)))
        (same_used m m' (λ b p q. t b (omega arith) (omega arith)))

    pub becomes_directories : {ds : List ℕ} → Same m m' 0 44 → Same m m' 48 48 → Behind m m' 112 → directory_count m' ≤ 4 → directories_of m' ≡ ds
        → Becomes m m' (with_directories (flat_of m) ds)
    becomes_directories s t r b e =
        becomes_kept (λ b p q. s b p (omega arith)) (λ b p q. s b (omega arith) (omega arith)) (λ b p q. t b (omega arith) (omega arith)) (λ b p q. r b (omega arith))
        (kept_head (λ b p q. s b (omega arith) (omega arith)))
        (kept_opens (λ b p q. s b (omega arith) (omega arith)) (λ b p q. r b (omega arith)))
        (kept_named (λ b p q. s b (omega arith) q) (λ b p. r b (omega arith))) (b, e)
        (same_used m m' (λ b p q. r b (omega arith)))

    pub becomes_used : {u : ℕ → Bool} → Same m m' 0 used_at → Behind m m' head_size → is_used m' ≡ u → Becomes m m' (with_used (flat_of m) u)
    becomes_used s t e =
        becomes_kept (λ b p q. s b p (omega arith)) (λ b p q. s b (omega arith) (omega arith)) (λ b p q. s b (omega arith) (omega arith)) (λ b p q. t b p)
        (kept_head (λ b p q. s b (omega arith) (omega arith)))
        (kept_opens (λ b p q. s b (omega arith) (omega arith)) (λ b p q. s b (omega arith) (omega arith)))
        (kept_named (λ b p q. s b (omega arith) (omega arith)) (λ b p. t b (omega arith)))
        (kept_directories (λ b p q. s b (omega arith) (omega arith)) (λ b p q. s b (omega arith) (omega arith))) e
