-- What a note makes of the objects, where the object is known and where it isn't.
use Rattle.std.specs.Prelude.{◌≡◌, ℕ, Option, Some, None, unwrap_or}
use Rattle.std.specs.BTreeMap.{insert_entry, is_at}
use Rattle.std.specs.List.Sorted.{IsStrictlySortedBy}
use Rattle.std.specs.Map.{keys_of, lookup, set_value}
use Rattle.std.specs.Ordering.{is_eq}
use Rattle.std.proofs.Common.{ap, ◌∙◌}
use Rattle.tg_base.specs.Orders.{oid_cmp}
use Rattle.tg_base.specs.declared.ids.Oid.{Oid}
use Rattle.tg_base.specs.declared.marks.Part.{Part}
use Rattle.tg_vers.specs.Kept.{Kept, Objects, unchanged, kept_of, noted_in, noted}
use Rattle.tg_vers.proofs.Keeping.{oid_total, same_oid}
use Rattle.tg_vers.proofs.Placing.{taken_none, put_back}

pub noted_known : (os : Objects) (o : Oid) (p : Part) (n : ℕ) (x : Kept) → IsStrictlySortedBy oid_cmp (keys_of os) → lookup (is_at (oid_cmp o)) os ≡ Some x
    → noted os o p n ≡ set_value (is_at (oid_cmp o)) os (noted_in x p n)
unfolding noted
noted_known os o p n x h found =
    put_back oid_total (λ a b e. same_oid a b (ap is_eq e)) o x (noted_in (kept_of os o) p n) os h found
    ∙ ap (λ (y : Option Kept). set_value (is_at (oid_cmp o)) os (noted_in (unwrap_or y unchanged) p n)) found

pub noted_new : (os : Objects) (o : Oid) (p : Part) (n : ℕ) → lookup (is_at (oid_cmp o)) os ≡ None → noted os o p n ≡ insert_entry oid_cmp os o (noted_in unchanged p n)
unfolding noted
noted_new os o p n none =
    ap (λ (l : Objects). insert_entry oid_cmp l o (noted_in (kept_of os o) p n)) (taken_none (is_at (oid_cmp o)) os none)
    ∙ ap (λ (y : Option Kept). insert_entry oid_cmp os o (noted_in (unwrap_or y unchanged) p n)) none
