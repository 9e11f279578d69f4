-- A directory is filled from the front.
use Rattle.basics.proofs.Kit.{◌≡◌, refl, sym, ap, ◌∙◌, List, [], ◌∷◌, ◌++◌, append_assoc, append-nil, ℕ, ◌+◌, ◌*◌, ◌≤◌, ◌<◌, add-one, length, take, get_or, length-append, length-take}
use Rattle.basics.proofs.Kit.{take-suc, arith}
use Rattle.block_forms.specs.Limits.{entries_per_block, block_size}
use Rattle.block_bits.specs.Bits.{bits_of, bits_in}
use Rattle.basics.specs.Lists.{over}
use Rattle.block_bits.proofs.Numbers.{length_bits_of}
use Rattle.block_forms.specs.Spell.{zeros, spell, padded}
use Rattle.block_forms.specs.Block.{directory, entry_fields, directory_fields, encode_block}
use Rattle.block_forms.proofs.Spelled.{all_bytes, block_is, put_next, length_spell, spell_append, put_fields, empty_block}

-- the fields before the entries
abbrev pub head_fields : ℕ → ℕ → List (ℕ × ℕ)
head_fields l n = (4, 3) ∷ (9, n) ∷ (32, l) ∷ (19, 0) ∷ []

-- the bits of a directory that says n entries, with the entries es
unfoldable pub dir_bits : ℕ → ℕ → List ℕ → List ℕ
dir_bits l n es = spell (head_fields l n) ++ spell (entry_fields es)

dir_whole : (l : ℕ) (es s : List ℕ) → length s ≡ block_size → ((i : ℕ) → get_or s i 0 < 256) → bits_in s ≡ padded (dir_bits l (length es) es) → s ≡ encode_block (directory l es)
unfolding dir_bits encode_block
dir_whole l es s k b e =
    let a : spell (directory_fields l es) ≡ spell (head_fields l (length es)) ++ spell (entry_fields es) = spell_append (head_fields l (length es)) (entry_fields es) in
    block_is (directory_fields l es) s k (all_bytes s b) (e ∙ ap padded (sym a))

pub spell_entries_snoc : (es : List ℕ) (e : ℕ) → spell (entry_fields (es ++ (e ∷ []))) ≡ spell (entry_fields es) ++ bits_of 12 e
unfolding spell entry_fields
spell_entries_snoc [] e = append-nil (bits_of 12 e)
spell_entries_snoc (x ∷ es) e = rw (spell_entries_snoc es e) (sym (append_assoc (bits_of 12 x) (spell (entry_fields es)) (bits_of 12 e)))

pub length_entries : (es : List ℕ) → length (spell (entry_fields es)) ≡ 12 * length es
unfolding spell entry_fields
length_entries [] = refl
length_entries (x ∷ es) = rw (length-append (bits_of 12 x) (spell (entry_fields es)), length_bits_of 12 x, length_entries es) (omega arith)

length_dir : (l n : ℕ) (es : List ℕ) → length (dir_bits l n es) ≡ 64 + 12 * length es
unfolding dir_bits
length_dir l n es =
    rw (length-append (spell (head_fields l n)) (spell (entry_fields es)), length_entries es, length_spell (head_fields l n))

-- the head, field by field
head_put : (l n : ℕ) (b : List ℕ) → b ≡ bits_in (zeros block_size) → over (over (over (over b 0 (bits_of 4 3)) 4 (bits_of 9 n)) 13 (bits_of 32 l)) 45 (bits_of 19 0) ≡ padded (dir_bits l n [])
unfolding dir_bits entry_fields spell
head_put l n b e = rw (e, empty_block) (put_fields (head_fields l n) [] 0 refl (omega arith) ∙ ap padded (sym (append-nil (spell (head_fields l n)))))

pub head_filled : (l n : ℕ) {b b₁ b₂ b₃ b₄ : List ℕ} → b ≡ bits_in (zeros block_size) → b₁ ≡ over b 0 (bits_of 4 3) → b₂ ≡ over b₁ 4 (bits_of 9 n)
    → b₃ ≡ over b₂ 13 (bits_of 32 l) → b₄ ≡ over b₃ 45 (bits_of 19 0) → b₄ ≡ padded (dir_bits l n [])
head_filled l n {b} e kind count level rest = rest ∙ rw (level, count, kind) (head_put l n b e)

dir_snoc : (l n : ℕ) (es : List ℕ) (e : ℕ) → dir_bits l n es ++ bits_of 12 e ≡ dir_bits l n (es ++ (e ∷ []))
unfolding dir_bits
dir_snoc l n es e = rw (spell_entries_snoc es e) (append_assoc (spell (head_fields l n)) (spell (entry_fields es)) (bits_of 12 e))

-- an entry more
entry_put : (l n : ℕ) (es : List ℕ) (i : ℕ) → i < length es → i < entries_per_block
    → over (padded (dir_bits l n (take i es))) (64 + 12 * i) (bits_of 12 (get_or es i 0)) ≡ padded (dir_bits l n (take (i + 1) es))
entry_put l n es i h k =
    let t : length (take i es) ≡ i = simp length-take (omega arith) in
    let d : length (dir_bits l n (take i es)) ≡ 64 + 12 * i = length_dir l n (take i es) ∙ ap (λ (m : ℕ). 64 + 12 * m) t in
    let w = length_bits_of 12 (get_or es i 0) in
    let p : over (padded (dir_bits l n (take i es))) (length (dir_bits l n (take i es))) (bits_of 12 (get_or es i 0)) ≡ padded (dir_bits l n (take i es) ++ bits_of 12 (get_or es i 0)) =
    put_next (dir_bits l n (take i es)) (bits_of 12 (get_or es i 0)) (omega arith) in
    rw (← d, p, add-one i, take-suc es i 0 h) (ap padded (dir_snoc l n (take i es) (get_or es i 0)))

pub entry_filled : (l n : ℕ) (es : List ℕ) (i : ℕ) {b b₁ : List ℕ} {v : ℕ} → i < length es → i < entries_per_block → b ≡ padded (dir_bits l n (take i es)) → v ≡ get_or es i 0
    → b₁ ≡ over b (64 + 12 * i) (bits_of 12 v) → b₁ ≡ padded (dir_bits l n (take (i + 1) es))
entry_filled l n es i h k front entry put = put ∙ rw (front, entry) (entry_put l n es i h k)

pub dir_done : (l n : ℕ) (es s : List ℕ) → n ≤ length es → length s ≡ block_size → ((i : ℕ) → get_or s i 0 < 256)
    → bits_in s ≡ padded (dir_bits l n (take n es)) → s ≡ encode_block (directory l (take n es))
dir_done l n es s h k b e =
    let t : length (take n es) ≡ n = simp length-take (omega arith) in
    dir_whole l (take n es) s k b (e ∙ ap (λ (m : ℕ). padded (dir_bits l m (take n es))) (sym t))
