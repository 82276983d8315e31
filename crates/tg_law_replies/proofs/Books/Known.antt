-- Whose each record of a run's log is.
use Rattle.std.proofs.Common.{◌≡◌, ℕ, ◌<◌, ◌≤◌, [], true, refl, sym, ◌∙◌, subst, arith, Some, Contains}
use Rattle.tg_base.specs.Clusters.{Header}
use Rattle.tg_entry.specs.declared.entry.Body.{Body}
use Rattle.tg_entry.specs.declared.entry.Body.TheVariants.{Commit, Decision, Checkpoint}
use Rattle.tg_entry.specs.declared.entry.Entry.{Entry}
use Rattle.tg_entry.specs.Format.{tag_of}
use Rattle.tg_kind.specs.Meaning.{Meaning}
use Rattle.tg_model.specs.declared.trace.What.TheVariants as told
use Rattle.tg_model.specs.Traces.{Tells}
use Rattle.tg_protocol.specs.Entries.{body_commits, is_commit}
use Rattle.tg_protocol.specs.Transactions.{Tx}
use Rattle.tg_protocol.specs.Worlds.{World, start, client, trace}
use Rattle.tg_protocol.specs.Runs.{Moves, run}
use Rattle.tg_protocol.specs.Holding.{EntriesOnce}
use Rattle.tg_law_replies.specs.History.Worlds.{entries_in}
use Rattle.tg_law_replies.proofs.History.Members.{has_contained}
use Rattle.tg_law_replies.specs.Books.Booked.{IsClosed}
use Rattle.tg_law_replies.specs.Books.Kept.{RecordsLeft, AsksPrecede}
use Rattle.tg_law_replies.specs.Books.Laws.{RecordsKnown, RecordsAreKnown}
use Rattle.tg_law_replies.proofs.Books.Worlds.{nil_right, run_book, start_book}
use Rattle.tg_law_replies.proofs.Books.Records.{Begun, begun_of, begun_number, on_begun, before_closed}

-- records of transactions have one kind of body
pub one_tag : (a b : Body) → body_commits a ≡ true → body_commits b ≡ true → tag_of a ≡ tag_of b
one_tag (Commit rs ws) (Commit ss us) x y = refl
one_tag (Commit rs ws) (Decision p q) x y = absurd cc
one_tag (Commit rs ws) (Checkpoint o u v whole keys state) x y = absurd cc
one_tag (Decision p q) b x y = absurd cc
one_tag (Checkpoint o u v whole keys state) b x y = absurd cc

module _ (m : Meaning) (h : Header) (ms : Moves m) (left : RecordsLeft m h ms (run m ms (start m h))) (asks : AsksPrecede m (run m ms (start m h))) where
  abbrev end : World m
  end = run m ms (start m h)

  closed : (k : ℕ) (t : Tx) → (client m end k).tx ≡ Some t → IsClosed m (entries_in m end) (trace m end) k t
  closed k t is p e i commit client_is number =
      subst (λ (j : ℕ). Tells m (trace m end) j t.number told.End × (e.body ≡ Commit t.reads t.writes) × ((s : ℕ) → t.snapshot ≡ Some s → s ≤ p)) client_is
      (before_closed m h ms left asks t p e ms [] b.was.after (sym (nil_right ms)) (subst (λ (j : ℕ). (client m end j).tx ≡ Some t) (sym client_is) is) i commit b number b.was.split)
    where
      b : Begun m h ms left asks e
      b = begun_of m h ms left asks p e i commit

  known : (p : ℕ) (e : Entry) → Contains (entries_in m end) (p, e) → is_commit e ≡ true → (0 < e.head.number) × (e.head.number ≤ (client m end e.head.client).begun)
  known p e i commit =
      let n = begun_number m h ms left asks e b in
      let le = n.1 in
      let more = subst (λ (xs : Moves m). (client m (run m b.was.before (start m h)) e.head.client).begun ≤ (client m (run m xs (start m h)) e.head.client).begun) (sym b.was.split) (on_begun m h ms left asks e.head.client b.was.before b.was.after) in
      (n.0, omega (arith, le, more))
    where
      b : Begun m h ms left asks e
      b = begun_of m h ms left asks p e i commit

  all_known : EntriesOnce m end → RecordsKnown m end
  all_known once = record {
    numbers = λ u i. (run_book m ms (start m h) (start_book m h) u.client).below u (has_contained (trace m end) u i) refl;
    known = known;
    closed = closed;
    once = λ p q k x r s. once p q r.entry s.entry r.here s.here (r.client ∙ sym s.client) (one_tag r.entry.body s.entry.body r.commit s.commit) (r.number ∙ sym s.number);
  }

pub records_are_known : (m : Meaning) → RecordsAreKnown m
records_are_known m h ms w r left asks once =
    subst (λ (u : World m). RecordsLeft m h ms u → AsksPrecede m u → EntriesOnce m u → RecordsKnown m u) (sym r.goes.is) (λ l a o. all_known m h ms l a o) left asks once
