-- The header keeps the rules.
use Rattle.std.proofs.Common.{◌≡◌, ℕ, List, [], ◌∷◌, refl, sym, subst}
use Rattle.tg_base.specs.Clusters.{IsHeader}
use Rattle.tg_base.specs.declared.ids.Oid.{Oid}
use Rattle.tg_gen.specs.Loads.{oids}

pub lawful : (cs : List (List ℕ)) (os : List Oid) → cs ≡ (0 ∷ 1 ∷ []) ∷ [] → os ≡ oids
    → IsHeader (record { units = 2; layouts = 1; seqs = 2; clients = 4; limit = 100000; chains = cs; objects = os })
lawful cs os e f =
    subst (λ (ds : List (List ℕ)). IsHeader (record { units = 2; layouts = 1; seqs = 2; clients = 4; limit = 100000; chains = ds; objects = os })) (sym e)
    (subst (λ (ps : List Oid). IsHeader (record { units = 2; layouts = 1; seqs = 2; clients = 4; limit = 100000; chains = (0 ∷ 1 ∷ []) ∷ []; objects = ps })) (sym f) refl)
