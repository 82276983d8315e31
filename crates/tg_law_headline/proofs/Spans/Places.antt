-- The places of a transaction: its snapshots, and the stamp of its record.
use Rattle.std.proofs.Common.{◌≡◌, ℕ, List, [], ◌∷◌, ◌&&◌, Bool, true, false, refl, sym, ap, ◌∙◌, subst, inl, inr, arith}
use Rattle.tg_entry.specs.declared.entry.Entry.{Entry}
use Rattle.tg_kind.specs.Meaning.{Meaning}
use Rattle.tg_model.specs.Kinds.{DoneOf}
use Rattle.tg_model.specs.Traces.{IsOf, Place, Snapshot, Stamp}
use Rattle.tg_protocol.specs.Entries.{is_commit}
use Rattle.tg_protocol.specs.Versions.{PartVersion}
use Rattle.tg_protocol.specs.Views.{Entries}
use Rattle.tg_protocol.specs.Logs.{entries_of, commits_after, changes_after, done_at, done_if, history_after, history_of}
use Rattle.tg_protocol.specs.Worlds.{World, log, history, trace}
use Rattle.tg_protocol.specs.Alike.{HasRecord}
use Rattle.std.specs.Prelude.{Contains}
use Rattle.tg_law_replies.proofs.History.Members.{Has, contained_has, has_contained}
use Rattle.tg_law_cells.specs.Places.Order.{IsPlace}
use Rattle.tg_law_headline.specs.Spans.Begun.{PlacesNew, EachPassedBySafeTrims}
use Rattle.tg_law_headline.proofs.Spans.Records.{records_are_new}
use Rattle.tg_law_headline.proofs.Spans.Snapshots.{snapshots_are_new}

module _ (m : Meaning) where
  -- a transaction of a history is that of a record
  record Made (es : Entries) (d : DoneOf m) : Type 0 where
    at : ℕ
    entry : Entry
    here : Has es (at, entry)
    commit : is_commit entry ≡ true
    is : d ≡ done_at m at entry

  is_record : (ns : List PartVersion) (e : Entry) → commits_after m ns e ≡ true → is_commit e ≡ true
  is_record ns e h = first (is_commit e) _ h
    where
      first : (a b : Bool) → (a && b) ≡ true → a ≡ true
      first a b k = grind arith

  made : (ns : List PartVersion) (es : Entries) (d : DoneOf m) → Has (history_after m ns es) d → Made es d
  made ns [] d i = absurd i
  made ns (x ∷ xs) d i = by (commits_after m ns x.1) refl i (made (changes_after m ns x.0 x.1) xs d)
    where
      on : Made xs d → Made (x ∷ xs) d
      on y = record { at = y.at; entry = y.entry; here = inr y.here; commit = y.commit; is = y.is }

      by : (b : Bool) → commits_after m ns x.1 ≡ b → Has (done_if m b x.0 x.1 (history_after m (changes_after m ns x.0 x.1) xs)) d → (Has (history_after m (changes_after m ns x.0 x.1) xs) d → Made xs d) → Made (x ∷ xs) d
      by true e (inl g) f = record { at = x.0; entry = x.1; here = inl refl; commit = is_record ns x.1 e; is = g }
      by true e (inr g) f = on (f g)
      by false e g f = on (f g)

  record_of : (w : World m) (d : DoneOf m) (k x : ℕ) → Contains (history m w) d → IsOf m d k x → HasRecord m w d.stamp k x
  unfolding history history_of
  record_of w d k x i of =
      let y = made [] (entries_of (log m w)) d (has_contained (history_after m [] (entries_of (log m w))) d i) in
      subst (λ (p : ℕ). HasRecord m w p k x) (sym (ap (λ (z : DoneOf m). z.stamp) y.is)) (record {
        record_at = y.entry;
        here = contained_has (entries_of (log m w)) (y.at, y.entry) y.here;
        commit = y.commit;
        of_client = sym (ap (λ (z : DoneOf m). z.client) y.is) ∙ of.0;
        of_number = sym (ap (λ (z : DoneOf m). z.number) y.is) ∙ of.1;
      })

  pub places_are_new : EachPassedBySafeTrims m (PlacesNew m)
  places_are_new h ms u v r x safe k n p since place = by p place
    where
      by : (p : ℕ) → Place m (history m v) (trace m v) k n p → IsPlace m u v p
      by p (Snapshot o q t a tells) = snapshots_are_new m h ms u v r x k n o q t a since tells
      by p (Stamp d i of) = records_are_new m h ms u v r x safe k n d.stamp since (record_of v d k n i of)
