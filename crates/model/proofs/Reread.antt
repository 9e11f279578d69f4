-- When a checkpoint's header has landed, its blocks are read as the store before its begin.
use Rattle.block_forms.specs.Limits.{block_limit, block_size}
use Rattle.basics.proofs.Kit.{◌≡◌, sym, ap, ◌∙◌, subst, Bool, true, List, [], ◌∷◌, ◌++◌, map, ℕ, ◌*◌, ◌≤◌, ◌<◌, length}
use Rattle.basics.specs.Basics.{if'◌then◌else◌}
use Rattle.basics.proofs.Facts.{AllOf}
use Rattle.block_forms.specs.Block.{header, Block}
use Rattle.block_forms.specs.declared.Header.{Header}
use Rattle.image.specs.Whole.{read_image, after_header, with_header, pages_stage, pages_below}
use Rattle.image.specs.Stages.{holds, header_test, directory_test, tested_entries, page_test, tested_pages, StoredPage, directory_blocks}
use Rattle.image.specs.View.{view, View}
use Rattle.model.specs.State.{Store, Page}
use Rattle.model.specs.Rules.{is_dirty}
use Rattle.model.specs.Calls.{Call, after_calls}
use Rattle.model.specs.Recover.{recovered_store}
use Rattle.model.specs.CrashRecovery.{Logged, is_header, landed, Cut, image_with, content}
use Rattle.model.specs.Checkpoints.{after_stores, content_of, Placed, Checkpointed, Checkpoints}
use Rattle.model.proofs.Views.{WriteOk, put, CutV}
use Rattle.basics.proofs.Elements.{eqb-true, not_zero, all_map, all_parts, all_append}
use Rattle.model.proofs.Recovery.{found, Found, read_blocks}
use Rattle.model.proofs.Stored.{put_same}
use Rattle.model.proofs.Inv.{Named, Like}
use Rattle.model.proofs.Steps.{loaded_content, loaded_blocks, Top}
use Rattle.model.proofs.Start.{entries_in}
use Rattle.model.proofs.Claim.{claims_ok, writes_ok}
use Rattle.model.proofs.Bytes.{stage_is, view_sane}
use Rattle.model.proofs.Line.{view_after, length_after, started, cut_view}

-- ---- the first stores whole, the last of them a header's

header_lands : (w : Logged) (base : List Call) → is_header w ≡ true → landed w base ≡ w.before
unfolding landed if'◌then◌else◌
header_lands w base h = rw h

whole_cut : (img : List ℕ) (base : List Call) (ws : List Logged) (w : Logged) (later : List Logged) → is_header w ≡ true
    → Cut img base (ws ++ w ∷ later) (after_stores img (ws ++ w ∷ [])) w.before
unfolding after_stores
whole_cut img base [] w later h = Cut.whole (subst (λ z. Cut (image_with img w) z later (image_with img w) w.before) (sym (header_lands w base h)) Cut.stop)
whole_cut img base (v ∷ ws) w later h = Cut.whole (whole_cut (image_with img v) (landed v base) ws w later h)

top_block : (n : ℕ) (img : List ℕ) (ws : List Logged) (w : Logged) → length img ≡ block_size * n → AllOf (WriteOk n) (ws ++ w ∷ []) → is_header w ≡ true
    → view (after_stores img (ws ++ w ∷ [])) 0 ≡ w.write.what
unfolding after_stores is_header
top_block n img [] w e ok h =
    let z = eqb-true w.write.at 0 h in
    ap (λ v. v 0) (view_after n img w e ok.0)
    ∙ subst (λ b. put (view img) w.write.at w.write.what b ≡ w.write.what) z (put_same (view img) w.write.at w.write.what)
top_block n img (v ∷ ws) w e ok h = top_block n (image_with img v) ws w (length_after n img v e ok.0) ok.1 h

-- ---- reading

reads_found : (n : ℕ) (img : List ℕ) (s : Store) → length img ≡ block_size * n → 2 ≤ n → n ≤ block_limit → (f : Found n (view img) s)
    → read_image img ≡ holds (record { header = f.head; pages = f.pages })
unfolding read_image after_header with_header header_test pages_stage pages_below directory_test tested_entries page_test tested_pages if'◌then◌else◌
reads_found n img s e lo hi f = rw (stage_is img n e lo hi, f.top, f.head_ok, f.listed, f.entries_ok, f.read, f.rows_ok)

found_content : (n : ℕ) (v : View) (s : Store) (f : Found n v s) → map content_of f.pages ≡ map content s.pages
unfolding recovered_store
found_content n v s f = sym (loaded_content f.pages) ∙ ap (λ z. map content z.pages) f.store

same_header : {x : Block} {h k : Header} → x ≡ header h → x ≡ header k → h ≡ k
same_header e f = cc

-- the blocks named are those of the pages found
placed : (used : ℕ → Bool) (qs : List StoredPage) (ps : List Page) → AllOf (λ b. 0 < b) (map (λ q. q.block) qs)
    → Named used (map (λ q. q.block) qs) (map (λ p. p.block) ps) → Placed used qs ps
unfolding is_dirty
placed used [] [] a n = tt
placed used [] (p ∷ ps) a n = n
placed used (q ∷ qs) [] a n = n
placed used (q ∷ qs) (p ∷ ps) a n = (λ h. n.0 (not_zero p.block h), λ h. n.1 (eqb-true p.block 0 h) a.0, placed used qs ps a.1 n.2)

found_blocks : (n : ℕ) (v : View) (s : Store) (f : Found n v s) → map (λ p. p.block) s.pages ≡ map (λ p. p.block) f.pages
unfolding recovered_store
found_blocks n v s f = ap (λ z. map (λ p. p.block) z.pages) (sym f.store) ∙ loaded_blocks f.pages

found_positive : (n : ℕ) (v : View) (s : Store) (f : Found n v s) → AllOf (λ b. 0 < b) (map (λ q. q.block) f.pages)
found_positive n v s f =
    subst (AllOf (λ b. 0 < b)) (sym (read_blocks v f.head.level f.entries f.pages f.read))
    (all_map _ _ (λ b k. k.0) f.entries (entries_in f.head.blocks (directory_blocks f.head) f.entries f.entries_ok))

-- an image whose first block is the header of b, and which recovers to r, which is like b
read_again : (n : ℕ) (img : List ℕ) (b r : Store) (x : Block) → length img ≡ block_size * n → 2 ≤ n → n ≤ block_limit → Found n (view img) r → Like r b
    → Top x b → view img 0 ≡ x → Checkpointed img b
read_again n img b r x len lo hi f l t e =
    let q : t.head ≡ f.head = same_header t.is (sym e ∙ f.top) in
    record {
      found = record { header = f.head; pages = f.pages };
      read = reads_found n img r len lo hi f;
      pages = found_content n (view img) r f ∙ l.pages;
      places = placed b.used f.pages b.pages (found_positive n (view img) r f)
          (subst (λ z. Named b.used z (map (λ p. p.block) b.pages)) (found_blocks n (view img) r f) l.names);
      count = ap (λ z. z.pages) (sym q) ∙ t.pages;
      blocks = ap (λ z. z.blocks) (sym q) ∙ t.blocks;
      capacity = ap (λ z. z.capacity) (sym q) ∙ t.capacity;
      next = ap (λ z. z.next) (sym q) ∙ t.next;
      level = ap (λ z. z.level) (sym q) ∙ t.level;
    }

pub checkpoints : Checkpoints
checkpoints img bytes s start calls typed ws w later e h =
    let a = started img s start in
    let v = view img in
    let sane = view_sane img in
    let n = s.blocks in
    let Heads : Logged → Type 0 = λ w. is_header w ≡ true → Top w.write.what (after_calls w.before s) in
    let claim = claims_ok v sane s a.least a.most a.seen calls in
    let all-ok = subst (AllOf (WriteOk n)) e (writes_ok v sane s a.least a.most a.seen calls typed) in
    let ok = all_parts (WriteOk n) ws (w ∷ later) all-ok in
    let img' = after_stores img (ws ++ w ∷ []) in
    let c = cut_view n (whole_cut img [] ws w later h) a.long all-ok in
    let k = claim.0 (view img') w.before (subst (λ l. CutV v [] l (view img') w.before) (sym e) c.0) in
    read_again n img' (after_calls w.before s) k.0 w.write.what c.1 a.least a.most (found n (view img') k.0 k.1) k.2
    ((all_parts Heads ws (w ∷ later) (subst (AllOf Heads) e claim.1)).1.0 h)
    (top_block n img ws w a.long (all_append (WriteOk n) ws (w ∷ []) ok.0 (ok.1.0, tt)) h)
