-- The open transactions are listed each once, and each is 0 to 4,095.
use Rattle.block_forms.specs.Limits.{most_transaction}
use Rattle.basics.proofs.Kit.{◌≡◌, refl, sym, ap, ◌∙◌, subst, true, false, not, List, [], ◌∷◌, ◌++◌, map, ℕ, ◌≤◌, eqb, arith}
use Rattle.basics.specs.Basics.{distinct, is_in, any, keep}
use Rattle.basics.proofs.Facts.{AllOf, by, lie}
use Rattle.block_forms.specs.Tuple.{Owner, OwnerFits, Fits, committed, tentative}
use Rattle.image_rows.specs.Rows.{Row, is_by, is_own, transactions}
use Rattle.model.specs.State.{Store, Outcome}
use Rattle.model.specs.Transactions.{gives, changed, open_numbers, after_write, with_tuple}
use Rattle.model.specs.Calls.{TransactionCall, transact, Call, transacts, begins, steps, runs, call, is_transaction, others}
use Rattle.model.specs.Recover.{reopened}
use Rattle.basics.proofs.Elements.{all_append, all_map, all_keep, eqb-true, all_in}
use Rattle.basics.proofs.Members.{distinct_snoc, distinct_keep}
use Rattle.model.proofs.Owners.{numbers_append, numbers_write, numbers_without, numbers_reopened, transactions_distinct, in_transactions}
use Rattle.model.proofs.Effects.{Does, refuses, answers, starts, writes, finishes, undoes, does}
use Rattle.model.proofs.NoStores.{call_leaves}

abbrev pub Listed : Store → Type 0
Listed s = (distinct (open_numbers s.active) ≡ true) × AllOf (λ tx. tx ≤ most_transaction) (open_numbers s.active)

abbrev Once : List ℕ → Type 0
Once os = (distinct os ≡ true) × AllOf (λ tx. tx ≤ most_transaction) os

once_open : (tx : ℕ) (os : List ℕ) → is_in tx os ≡ false → tx ≤ most_transaction → Once os → Once (os ++ tx ∷ [])
once_open tx os h l o = (distinct_snoc tx os h o.0, all_append _ os (tx ∷ []) o.1 (l, tt))

once_others : (tx : ℕ) (os : List ℕ) → Once os → Once (others tx os)
unfolding others
once_others tx os o = (
  distinct_keep _ os o.0,
  all_map (λ x. (not (eqb x tx) ≡ true) × (x ≤ most_transaction)) _ (λ x k. k.1) (keep (λ w. not (eqb w tx)) os)
      (all_keep (λ x. x ≤ most_transaction) (λ w. not (eqb w tx)) os o.1),
)

listed_same : (s z : Store) → open_numbers z.active ≡ open_numbers s.active → Listed s → Listed z
listed_same s z e l = subst Once (sym e) l

does_listed : (c : TransactionCall) (s : Store) (o : Outcome) → Does c s o → Listed s → Listed o.store
unfolding gives changed with_tuple after_write
does_listed c s o (refuses n) l = l
does_listed c s o (answers a e h) l = l
does_listed c s o (starts tx e low i f) l =
    subst Once (sym (numbers_append s.active (record { transaction = tx; written = 0 }))) (once_open tx (open_numbers s.active) i low l)
does_listed c s o (writes tx t k bs m e a) l = subst Once (sym (numbers_write tx s.active)) l
does_listed c s o (finishes tx e) l = subst Once (sym (numbers_without tx s.active)) (once_others tx (open_numbers s.active) l)
does_listed c s o (undoes tx e) l = subst Once (sym (numbers_without tx s.active)) (once_others tx (open_numbers s.active) l)

pub keeps_listed : (c : Call) (s : Store) → Listed s → Listed (call c s).store
unfolding call is_transaction
keeps_listed (transacts c) s l = does_listed c s (transact c s) (does c s) l
keeps_listed begins s l = listed_same s (call begins s).store (ap open_numbers ((call_leaves begins s).active refl)) l
keeps_listed (steps len) s l = listed_same s (call (steps len) s).store (ap open_numbers ((call_leaves (steps len) s).active refl)) l
keeps_listed (runs limit len) s l = listed_same s (call (runs limit len) s).store (ap open_numbers ((call_leaves (runs limit len) s).active refl)) l

-- ---- recovered

own_small : (tx : ℕ) (o : Owner) → OwnerFits o → is_by tx o ≡ true → tx ≤ most_transaction
unfolding is_by
own_small tx committed f h = lie h
own_small tx (tentative u s) f h = let e = eqb-true u tx h in omega (arith, f.0)

owners_small : (tx : ℕ) (rs : List Row) → AllOf (λ r. Fits r.1) rs → any (is_own tx) rs ≡ true → tx ≤ most_transaction
unfolding any is_own
owners_small tx [] a h = lie h
owners_small tx (r ∷ rs) a h = by (is_by tx r.1.owner) (λ k. own_small tx r.1.owner a.0.owner k) (λ k. owners_small tx rs a.1 (rw (k, any) at h))

pub reopened_once : (rs : List Row) → AllOf (λ r. Fits r.1) rs → Once (open_numbers (map (reopened rs) (transactions rs)))
reopened_once rs a =
    subst Once (sym (numbers_reopened rs (transactions rs)))
    (transactions_distinct rs, all_in _ (transactions rs) (λ tx h. owners_small tx rs a (sym (in_transactions tx rs) ∙ h)))
