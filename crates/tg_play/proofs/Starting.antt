-- A view that starts.
use Rattle.std.specs.Prelude.{◌≡◌, ℕ, ◌<◌, Bool, true, false, cond, List, [], ◌∷◌, remove, slice_get, map, find, Option, Some, refl}
use Rattle.std.specs.BTreeMap.{insert_entry}
use Rattle.std.proofs.Common.{suc, length, take, drop, sym, ap, ◌∙◌, subst}
use Rattle.tg_base.specs.Orders.{oid_cmp, oid_eq}
use Rattle.tg_base.specs.declared.ids.Oid.{Oid}
use Rattle.tg_kind.specs.Meaning.{Meaning}
use Rattle.tg_protocol.specs.Versions.{PartVersion}
use Rattle.tg_protocol.specs.Views as told
use Rattle.tg_vers.specs.Kept.{Keeps}
use Rattle.tg_vers.proofs.Lookups.{lookup_put}
use Rattle.tg_play.specs.declared.base.Base.{Base}
use Rattle.tg_play.specs.declared.hosted.Hosted.{Hosted}
use Rattle.tg_play.specs.Kept.{Kept, Hosts, hosted_of, hosted_from, hosts_from}
use Rattle.tg_play.specs.Relations.{KeepsBase, KeepsBases, KeepsHosted, KeepsObject, KeepsObjects, KeepsView}
use Rattle.tg_play.proofs.Splitting.{remove_last, drop_last}
use Rattle.tg_play.proofs.Hosting.{oid_total, oid_eq_is}

-- one base more, from the last one to the first: what is left of the bases, and the objects of those that were taken
pub bases_left : {S : Type 0} (bs left rest : List (Base S)) (n : ℕ) → n < length bs → left ≡ take (suc n) bs → rest ≡ remove left n → rest ≡ take n bs
bases_left {S} bs left rest n h is now = now ∙ ap (λ (xs : List (Base S)). remove xs n) is ∙ remove_last bs n h

pub one_more : {S : Type 0} (bs left : List (Base S)) (n : ℕ) (hs now : Hosts S) (b : Base S) → left ≡ take (suc n) bs → slice_get left n ≡ Some b → hs ≡ hosts_from (drop (suc n) bs)
    → now ≡ insert_entry oid_cmp hs b.oid (hosted_from b) → now ≡ hosts_from (drop n bs)
one_more {S} bs left n hs now b is found kept done =
    let front : drop n bs ≡ b ∷ drop (suc n) bs = drop_last bs n b (subst (λ (xs : List (Base S)). slice_get xs n ≡ Some b) is found) in
    done ∙ ap (λ (xs : Hosts S). insert_entry oid_cmp xs b.oid (hosted_from b)) kept ∙ ap (λ (xs : List (Base S)). hosts_from xs) (sym front)

module _ (m : Meaning) where
  put_first : (b : Base m.state) (bs : List (Base m.state)) (o : Oid) → hosted_of (hosts_from (b ∷ bs)) o ≡ cond (oid_eq b.oid o) (Some (hosted_from b)) (hosted_of (hosts_from bs) o)
  put_first b bs o =
      lookup_put oid_total (hosts_from bs) b.oid o (hosted_from b)
      ∙ ap (λ (t : Bool). cond t (Some (hosted_from b)) (hosted_of (hosts_from bs) o)) (sym (oid_eq_is b.oid o))

  abbrev among : List (told.Base m) → Oid → Option (told.Base m)
  among ds o = find (λ (d : told.Base m). oid_eq d.oid o) ds

  abbrev states_of : List (told.Base m) → List (Oid × m.state)
  states_of ds = map (told.base_state m) ds

  begun : (o : Oid) (b : Base m.state) (d : told.Base m) → KeepsBase m b d → KeepsHosted m o (hosted_from b) d (Some d.state) []
  begun o b d k = record {
    state = ap (λ (s : m.state). Some s) (sym k.state);
    base = k.versions;
    upto = k.upto;
    noted = subst (λ (ns : List PartVersion). Keeps b.vers (record { base = d.versions.base; noted = ns })) k.based k.versions;
  }

  each_begun : (bs : List (Base m.state)) (ds : List (told.Base m)) → KeepsBases m bs ds → (o : Oid) → KeepsObject m o (hosted_of (hosts_from bs) o) (among ds o) (told.state_in m (states_of ds) o) []
  each_begun [] [] k o = refl
  each_begun [] (d ∷ ds) k o = absurd k
  each_begun (b ∷ bs) [] k o = absurd k
  each_begun (b ∷ bs) (d ∷ ds) k o =
      subst (λ (x : Option (Hosted m.state)). KeepsObject m o x (among (d ∷ ds) o) (told.state_in m (states_of (d ∷ ds)) o) []) (sym (put_first b bs o))
      (subst (λ (t : Bool). KeepsObject m o (cond t (Some (hosted_from b)) (hosted_of (hosts_from bs) o)) (among (d ∷ ds) o) (told.state_in m (states_of (d ∷ ds)) o) []) (ap (λ (q : Oid). oid_eq q o) (sym k.0.oid))
      (by (each_begun bs ds k.1 o) (oid_eq d.oid o)))
    where
      by : KeepsObject m o (hosted_of (hosts_from bs) o) (among ds o) (told.state_in m (states_of ds) o) [] → (t : Bool) → KeepsObject m o (cond t (Some (hosted_from b)) (hosted_of (hosts_from bs) o)) (cond t (Some d) (among ds o)) (cond t (Some d.state) (told.state_in m (states_of ds) o)) []
      by more true = begun o b d k.0
      by more false = more

  -- fields apart, so that any way to write the view serves
  pub starts : (bs : List (Base m.state)) (ds : List (told.Base m)) (c : Kept m.state) → KeepsBases m bs ds → c.objects ≡ hosts_from bs → c.upto ≡ 0 → c.fates ≡ [] → c.open_records ≡ []
      → KeepsView m c (told.view_start m ds)
  unfolding told.view_start
  starts bs ds c k objects upto fates opened = record {
    objects = subst (λ (hs : Hosts m.state). KeepsObjects m hs (told.view_start m ds)) (sym objects) (record { each = each_begun bs ds k });
    upto = upto;
    fates = fates;
    open_records = opened;
    noted = tt;
  }
