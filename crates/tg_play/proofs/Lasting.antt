-- Hosted objects stay lawful.
use Rattle.std.specs.Prelude.{◌≡◌, ℕ, ◌+◌, ◌<◌, ◌≤◌, Bool, true, false, cond, ◌&&◌, nat_lt, nat_le, List, [], ◌∷◌, Option, Some, None, refl}
use Rattle.std.specs.BTreeMap.{insert_entry, is_at}
use Rattle.std.specs.BTreeSet.{insert_key}
use Rattle.std.specs.Map.{remove_entry}
use Rattle.std.specs.Ordering.{nat_cmp}
use Rattle.std.proofs.Common.{sym, ap, ◌∙◌, subst, arith}
use Rattle.tg_base.specs.Orders.{oid_cmp, oid_eq}
use Rattle.tg_base.specs.declared.ids.Oid.{Oid}
use Rattle.tg_base.specs.declared.marks.Part.{Part}
use Rattle.tg_entry.specs.declared.entry.Entry.{Entry}
use Rattle.tg_entry.specs.Drafts.{IsInOrder}
use Rattle.tg_protocol.specs.Views.{Entries}
use Rattle.tg_vers.specs.Kept.{kept_of}
use Rattle.tg_vers.proofs.Lookups.{lookup_put, lookup_taken}
use Rattle.tg_play.specs.declared.base.Base.{Base}
use Rattle.tg_play.specs.declared.hosted.Hosted.{Hosted}
use Rattle.tg_play.specs.Kept.{Kept, Hosts, hosted_of, hosted_from, hosts_from}
use Rattle.tg_play.specs.Lawful.{is_named, IsLawfulBase, AreLawfulBases, IsLawfulHosted, AreLawful, StaysLawful}
use Rattle.tg_play.proofs.Hosting.{oid_total, oid_eq_is, same_oid}
use Rattle.tg_play.proofs.Lawful.{Changes, version_after, change_lawful}
use Rattle.tg_play.proofs.Playing.{Later, due_from, due_below, in_order}

module _ {S : Type 0} where
  hosted_more : (a b : ℕ) (o : Oid) (h : Hosted S) → a ≤ b → IsLawfulHosted a o h → IsLawfulHosted b o h
  hosted_more a b o h le k = record { lawful = k.lawful; reach = λ n p q. k.reach n (omega (arith, le, p)) q }

  pub lawful_more : (a b : ℕ) (hs : Hosts S) → a ≤ b → AreLawful a hs → AreLawful b hs
  lawful_more a b hs le k = record { each = λ o h is. hosted_more a b o h le (k.each o h is) }

  -- ---- a change of a hosted object whose base isn't past it

  pub changed_lawful : (o : Oid) (h new : Hosted S) (p : Part) (pos : ℕ) → h.upto ≤ pos → is_named p ≡ true → Changes o h.noted p pos new.noted → IsLawfulHosted (pos + 1) o h → IsLawfulHosted (pos + 1) o new
  changed_lawful o h new p pos low s made k =
      let le : (kept_of h.noted o).version ≤ pos + 1 = k.reach (pos + 1) (omega arith) (omega (arith, low)) in
      let now : (kept_of new.noted o).version ≡ pos + 1 = version_after o h.noted new.noted p pos k.lawful made in
      record {
        lawful = change_lawful o h.noted new.noted p pos le s k.lawful made;
        reach = λ n q r. subst (λ (x : ℕ). x ≤ n) (sym now) q;
      }

  -- ---- an object that is put back

  put_back : (hs : Hosts S) (y o : Oid) (h : Hosted S) → hosted_of (insert_entry oid_cmp hs y h) o ≡ cond (oid_eq y o) (Some h) (hosted_of hs o)
  put_back hs y o h = lookup_put oid_total hs y o h ∙ ap (λ (t : Bool). cond t (Some h) (hosted_of hs o)) (sym (oid_eq_is y o))

  put_lawful : (bound : ℕ) (hs : Hosts S) (y : Oid) (h : Hosted S) → IsLawfulHosted bound y h
      → ((o : Oid) (g : Hosted S) → oid_eq y o ≡ false → hosted_of hs o ≡ Some g → IsLawfulHosted bound o g) → AreLawful bound (insert_entry oid_cmp hs y h)
  put_lawful bound hs y h mine others = record { each = λ o g is. by o g (oid_eq y o) refl (sym (put_back hs y o h) ∙ is) }
    where
      same : (g : Hosted S) → Some h ≡ Some g → h ≡ g
      same g e = cc

      by : (o : Oid) (g : Hosted S) (t : Bool) → oid_eq y o ≡ t → cond t (Some h) (hosted_of hs o) ≡ Some g → IsLawfulHosted bound o g
      by o g true e is = subst (λ (q : Oid). IsLawfulHosted bound q g) (same_oid y o e) (subst (λ (x : Hosted S). IsLawfulHosted bound y x) (same g is) mine)
      by o g false e is = others o g e is

  pub back_lawful : (bound : ℕ) (hs new : Hosts S) (y : Oid) (h : Hosted S) → AreLawful bound hs → IsLawfulHosted bound y h → new ≡ insert_entry oid_cmp (remove_entry (is_at (oid_cmp y)) hs) y h → AreLawful bound new
  back_lawful bound hs new y h k mine put =
      subst (λ (xs : Hosts S). AreLawful bound xs) (sym put)
      (put_lawful bound (remove_entry (is_at (oid_cmp y)) hs) y h mine (λ o g e is. k.each o g (sym (lookup_taken oid_total hs y o (sym (oid_eq_is y o) ∙ e)) ∙ is)))

  -- ---- a view that starts

  base_lawful : (b : Base S) → IsLawfulBase b → IsLawfulHosted 0 b.oid (hosted_from b)
  base_lawful b k = let most : (kept_of b.vers b.oid).version ≤ b.upto = k.reach in record { lawful = k.lawful; reach = λ n p q. omega (arith, most, q) }

  begun_lawful : (bs : List (Base S)) → AreLawfulBases bs → AreLawful 0 (hosts_from bs)
  begun_lawful [] k = record { each = λ o h is. none h is }
    where
      none : {A : Type 0} (h : Hosted S) → None ≡ Some h → A
      none h e = absurd cc
  begun_lawful (b ∷ bs) k = put_lawful 0 (hosts_from bs) b.oid (hosted_from b) (base_lawful b k.0) (λ o g e is. (begun_lawful bs k.1).each o g is)

  pub starts_lawful : (bs : List (Base S)) (hs : Hosts S) (upto : ℕ) → hs ≡ hosts_from bs → AreLawfulBases bs → AreLawful upto hs
  starts_lawful bs hs upto is k = lawful_more 0 upto hs (omega arith) (subst (λ (xs : Hosts S). AreLawful 0 xs) (sym is) (begun_lawful bs k))

  -- ---- what a record makes of them

  pub stays : (bound pos : ℕ) (missing : Option Oid) (hs : Hosts S) → AreLawful bound hs → StaysLawful bound pos missing hs
  stays bound pos None hs k = λ le. lawful_more bound (pos + 1) hs le k
  stays bound pos (Some o) hs k = k

  pub opened_lawful : (bound pos : ℕ) (c d : Kept S) (needs : Bool) → d ≡ cond needs (record c { open_records = insert_key nat_cmp c.open_records pos }) c → AreLawful bound c.objects → AreLawful bound d.objects
  opened_lawful bound pos c d needs is k = subst (λ (x : Kept S). AreLawful bound x.objects) (sym is) (by needs)
    where
      by : (t : Bool) → AreLawful bound (cond t (record c { open_records = insert_key nat_cmp c.open_records pos }) c).objects
      by true = k
      by false = k

  pub fated_lawful : (bound pos : ℕ) (c d : Kept S) (b : Bool) → d ≡ record c { fates = insert_entry nat_cmp c.fates pos b } → AreLawful bound c.objects → AreLawful bound d.objects
  fated_lawful bound pos c d b is k = subst (λ (x : Kept S). AreLawful bound x.objects) (sym is) k

  -- ---- a play, entry by entry: to what bound the objects are lawful, and from which position on the rest stands

  pub record Lasts (from upto : ℕ) (hs : Hosts S) (rest : Entries) : Type 0 where
    pub bound : ℕ
    pub place : ℕ
    pub lawful : AreLawful bound hs
    pub low : bound ≤ upto
    pub later : Later place rest
    pub bounded : (n : ℕ) → from ≤ n → place ≤ n → bound ≤ n

  pub lasts_start : (from upto : ℕ) (hs : Hosts S) (es : Entries) → from ≤ upto → IsInOrder es → AreLawful from hs → Lasts from upto hs es
  lasts_start from upto hs es le order k = record {
    bound = from;
    place = 0;
    lawful = k;
    low = le;
    later = in_order es order;
    bounded = λ n a b. a;
  }

  pub lasts_over : (from upto : ℕ) (hs : Hosts S) (x : ℕ × Entry) (xs : Entries) → Lasts from upto hs (x ∷ xs) → Lasts from upto hs xs
  lasts_over from upto hs x xs k =
      let first : k.place ≤ x.0 = k.later.0 in
      record {
        bound = k.bound;
        place = x.0 + 1;
        lawful = k.lawful;
        low = k.low;
        later = k.later.1;
        bounded = λ n a b. k.bounded n a (omega (arith, first, b));
      }

  pub lasts_on : (from upto : ℕ) (hs new : Hosts S) (x : ℕ × Entry) (xs : Entries) → (nat_le from x.0 && nat_lt x.0 upto) ≡ true → (k : Lasts from upto hs (x ∷ xs)) → StaysLawful k.bound x.0 None new → Lasts from upto new xs
  lasts_on from upto hs new x xs due k now =
      let from_on : from ≤ x.0 = due_from from upto x.0 due in
      let below : x.0 < upto = due_below from upto x.0 due in
      let at : k.bound ≤ x.0 = k.bounded x.0 from_on k.later.0 in
      record {
        bound = x.0 + 1;
        place = x.0 + 1;
        lawful = now (omega (arith, at));
        low = omega (arith, below);
        later = k.later.1;
        bounded = λ n a b. b;
      }

  pub lasts_stuck : (from upto : ℕ) (hs new : Hosts S) (x : ℕ × Entry) (xs : Entries) (o : Oid) → (nat_le from x.0 && nat_lt x.0 upto) ≡ true → (k : Lasts from upto hs (x ∷ xs)) → StaysLawful k.bound x.0 (Some o) new → AreLawful x.0 new
  lasts_stuck from upto hs new x xs o due k now = lawful_more k.bound x.0 new (k.bounded x.0 (due_from from upto x.0 due) k.later.0) now

  pub lasts_end : (from upto : ℕ) (hs : Hosts S) → Lasts from upto hs [] → AreLawful upto hs
  lasts_end from upto hs k = lawful_more k.bound upto hs k.low k.lawful
