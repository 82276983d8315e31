-- What is found by position.
use Rattle.std.specs.Prelude.{◌≡◌, ℕ, Bool, true, false, cond, ◌==◌, List, [], ◌∷◌, Option, Some, refl}
use Rattle.std.specs.BTreeMap.{insert_entry}
use Rattle.std.specs.Cmp.{nat_cmp_total, unsigned_ties}
use Rattle.std.specs.Ordering.{nat_cmp}
use Rattle.std.proofs.Common.{sym, ap, ◌∙◌}
use Rattle.tg_entry.specs.declared.entry.Body.{Body}
use Rattle.tg_entry.specs.declared.entry.Body.TheVariants.{Commit, Decision, Checkpoint}
use Rattle.tg_kind.specs.Meaning.{Meaning}
use Rattle.tg_protocol.specs.Words.{or_else, where_true}
use Rattle.tg_protocol.specs.Entries.{decides}
use Rattle.tg_protocol.specs.Views.{Entries, decision_in, fate_in}
use Rattle.tg_vers.proofs.Lookups.{lookup_put}
use Rattle.tg_play.specs.Kept.{at_position, fates_kept, with_decision, decisions_kept}

put_at : (xs : List (ℕ × Bool)) (q p : ℕ) (b : Bool) → at_position (insert_entry nat_cmp xs q b) p ≡ cond (q == p) (Some b) (at_position xs p)
put_at xs q p b =
    lookup_put nat_cmp_total xs q p b
    ∙ ap (λ (t : Bool). cond t (Some b) (at_position xs p)) (sym (unsigned_ties q p))

pub fates_told : (m : Meaning) (fs : List (ℕ × Bool)) (p : ℕ) → at_position (fates_kept fs) p ≡ fate_in m fs p
fates_told m [] p = refl
fates_told m (x ∷ xs) p = put_at (fates_kept xs) x.0 p x.1 ∙ ap (λ (r : Option Bool). cond (x.0 == p) (Some x.1) r) (fates_told m xs p)

picked : (t b : Bool) (r : Option Bool) → cond t (Some b) r ≡ or_else (where_true t b) r
picked true b r = refl
picked false b r = refl

decided : (body : Body) (ds : List (ℕ × Bool)) (p : ℕ) (r : Option Bool) → at_position ds p ≡ r → at_position (with_decision ds body) p ≡ or_else (decides p body) r
decided (Commit rs ws) ds p r e = e
decided (Decision at b) ds p r e = put_at ds at p b ∙ ap (λ (x : Option Bool). cond (at == p) (Some b) x) e ∙ picked (at == p) b r
decided (Checkpoint o u v w ks s) ds p r e = e

pub decisions_told : (es : Entries) (p : ℕ) → at_position (decisions_kept es) p ≡ decision_in es p
unfolding decision_in
decisions_told [] p = refl
decisions_told (x ∷ xs) p = decided x.1.body (decisions_kept xs) p (decision_in xs p) (decisions_told xs p)
