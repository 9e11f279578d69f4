-- The quoted line: a cut of an image's bytes is a cut of its view, and recovery of the one is recovery of the other.
use Rattle.block_forms.specs.Limits.{block_size}
use Rattle.basics.proofs.Kit.{◌≡◌, sym, ap, ◌∙◌, subst, List, ◌∷◌, ℕ, ◌+◌, ◌*◌, ◌≤◌, ◌<◌, length, arith}
use Rattle.basics.proofs.Facts.{AllOf}
use Rattle.block_forms.specs.Block.{encode_block}
use Rattle.block_forms.specs.Decode.{decode_block}
use Rattle.block_forms.proofs.Laws.{encode_length, decode_encode}
use Rattle.image.specs.View.{view}
use Rattle.model.specs.State.{Store}
use Rattle.model.specs.Calls.{Call}
use Rattle.model.specs.Recover.{memory_for}
use Rattle.model.specs.CrashRecovery.{Start, fresh, recovered, Logged, landed, image_with, Cut, stop, torn, whole, CrashRecovery}
use Rattle.model.proofs.Views.{put, CutV, WriteOk}
use Rattle.model.proofs.Bytes.{length_put, view_put, view_sane, recover_view_lem, Accepted, accepted_recovery, made_accepted}
use Rattle.model.proofs.Claim.{crash_views, writes_ok}
use Rattle.model.proofs.Capacity.{same_capacity}

-- ---- a cut of the bytes is a cut of the view

room : (n at len : ℕ) → at < n → len ≡ block_size * n → block_size * at + block_size ≤ len
room n at len h e = omega arith

pub view_after : (n : ℕ) (img : List ℕ) (w : Logged) → length img ≡ block_size * n → WriteOk n w → view (image_with img w) ≡ put (view img) w.write.at w.write.what
unfolding image_with
view_after n img w e k =
    view_put img (encode_block w.write.what) w.write.at (room n w.write.at (length img) k.0 e) (encode_length w.write.what)
    ∙ ap (put (view img) w.write.at) (decode_encode w.write.what k.1)

pub length_after : (n : ℕ) (img : List ℕ) (w : Logged) → length img ≡ block_size * n → WriteOk n w → length (image_with img w) ≡ block_size * n
unfolding image_with
length_after n img w e k =
    length_put img (encode_block w.write.what) w.write.at (room n w.write.at (length img) k.0 e) (encode_length w.write.what) ∙ e

pub cut_view : (n : ℕ) {img : List ℕ} {base : List Call} {ws : List Logged} {img' : List ℕ} {base' : List Call} → Cut img base ws img' base'
    → length img ≡ block_size * n → AllOf (WriteOk n) ws → CutV (view img) base ws (view img') base' × (length img' ≡ block_size * n)
cut_view n stop e ok = (CutV.stop, e)
cut_view n {img} {base} (torn {w = w} {ws = ws} h xs l a) e ok =
    let r = room n w.write.at (length img) ok.0.0 e in (
      subst (λ z. CutV (view img) base (w ∷ ws) z base) (sym (view_put img xs w.write.at r l)) (CutV.torn h (decode_block xs)),
      length_put img xs w.write.at r l ∙ e,
    )
cut_view n {img} {img' = img'} {base' = base'} (whole {base = base} {w = w} {ws = ws} c) e ok =
    let r = cut_view n c (length_after n img w e ok.0) ok.1 in
    (CutV.whole (subst (λ z. CutV z (landed w base) ws (view img') base') (view_after n img w e ok.0) r.0), r.1)

-- ---- the claim

pub started : (img : List ℕ) (s : Store) → Start img s → Accepted img s
started img s (fresh old m n e) = made_accepted old m n s e
started img s (recovered m e) = accepted_recovery m img s e

pub crash_recovery : CrashRecovery
crash_recovery img bytes s start calls typed img' base cut m h =
    let a = started img s start in
    let sane = view_sane img in
    let c = cut_view s.blocks cut a.long (writes_ok (view img) sane s a.least a.most a.seen calls typed) in
    let k = crash_views (view img) sane s a.least a.most a.seen calls (view img') base c.0 in
    let r = k.0 in
    let q = same_capacity s.blocks (view img) s a.seen calls c.0 r k.1 in
    (r, recover_view_lem m img' r s.blocks c.1 a.least a.most k.1 (subst (λ z. memory_for z ≤ m) (sym q) h), k.2)
