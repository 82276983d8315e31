-- Where an outcome is unsure at the end of walks, the client's own record is among its entries.
use Rattle.std.proofs.Common.{◌≡◌, ◌⊎◌, ℕ, List, [], ◌∷◌, ◌++◌, true, refl, sym, ap, ◌∙◌, subst, inl, inr, arith, Option, Some, None}
use Rattle.tg_base.specs.Clusters.{Header}
use Rattle.tg_base.specs.declared.ids.Oid.{Oid}
use Rattle.tg_kind.specs.Meaning.{Meaning}
use Rattle.tg_model.specs.declared.command.Command.TheVariants as cmd
use Rattle.tg_model.specs.declared.trace.What.TheVariants as told
use Rattle.tg_model.specs.Kinds.{CommandOf, EventOf, WhatOf}
use Rattle.tg_protocol.specs.Past.{commit_at}
use Rattle.tg_protocol.specs.Clients.{Task, Syncing, Walking, Appending, Trimming, Copying', Reconfiguring, Work, Client, all_entries}
use Rattle.tg_protocol.specs.ClientSteps.{task_in}
use Rattle.tg_protocol.specs.Answers.{walked}
use Rattle.tg_protocol.specs.Walked.{Walked, entries_had}
use Rattle.tg_protocol.specs.Worlds.{Told, client, log}
use Rattle.tg_protocol.specs.Causes.{IsUnsure, UnsureTrue}
use Rattle.tg_protocol.specs.Views.{decision_in}
use Rattle.tg_protocol.specs.Runs.{Moves, Takes, Reaches}
use Rattle.tg_law_layouts.specs.Moves.After.{after}
use Rattle.tg_law_replies.specs.History.Worlds.{entries_in}
use Rattle.tg_law_replies.specs.Replies.Ended.{AppendsEnd}
use Rattle.tg_law_replies.proofs.History.Members.{has_contained}
use Rattle.tg_law_walks.specs.Lists.Spared.{TrimsWereSpare}
use Rattle.tg_law_walks.specs.Walks.Rounds.{round, IsRound}
use Rattle.tg_law_walks.proofs.Walks.Syncs.{logs_by_position}
use Rattle.tg_law_syncs.proofs.Exact.Finds.{rounds_exact}
use Rattle.tg_law_headline.proofs.Leaves.Turns.{AtTask, AtWork}
use Rattle.tg_law_claims.specs.Causes.Undecidings.{LacksRecord, UnsureUnlessLacking}
use Rattle.tg_law_claims.proofs.Causes.EndsGive.{ends_give}
use Rattle.tg_law_claims.proofs.Causes.Stalling.{Plain, Brief, Said, widens, walked_so}
use Rattle.tg_law_claims.proofs.Causes.Stalled.{AtWalksEnd, ends_tell, undecided_ends}
use Rattle.tg_law_claims.specs.Answers.Undecided.{HasNoYes, UnsureUnlessYes}
use Rattle.tg_law_claims.proofs.Answers.Absent.{Owned, commit_found, own_found}
use Rattle.tg_law_claims.proofs.Answers.Along.{K, owns_at}
use Rattle.tg_law_claims.proofs.Causes.OwnAlong.{own_record}
use Rattle.tg_law_claims.proofs.Answers.NoYes.{Ok as Open, each_has as open_has, walked_ok}
use Rattle.tg_law_claims.proofs.Answers.OwnSince.{own_past}
use Rattle.tg_law_claims.proofs.Answers.WalksEnd.{TaskOwned, owned_there}

module _ (m : Meaning) (h : Header) (ms : Moves m) (e : EventOf m) (before : Reaches m h ms (after m h ms)) (reach : Reaches m h (ms ++ Takes e ∷ []) (after m h (ms ++ Takes e ∷ []))) (trims : TrimsWereSpare m h (ms ++ Takes e ∷ [])) (ends : AppendsEnd m h (ms ++ Takes e ∷ []) (after m h (ms ++ Takes e ∷ []))) where
  module _ (t : Told m) (k : AtWalksEnd m h ms e reach trims t) where
    found : IsRound m (log m (after m h (ms ++ Takes e ∷ []))) (round m k.end.client k.end.work k.end.client.cells) []
    found =
        ends_give m h.objects (entries_in m (after m h (ms ++ Takes e ∷ []))) (λ d y. IsRound m (log m (after m h (ms ++ Takes e ∷ []))) (round m d y d.cells) []) (after m h ms) t.mark.client e k.end
        (rounds_exact m h (ms ++ Takes e ∷ []) (after m h (ms ++ Takes e ∷ [])) reach trims ms [] e refl) k.ended

    abbrev c : Client m
    c = client m (after m h ms) t.mark.client

    -- the pages of its own records are known
    task_owned : (x : Task m) → AtTask m (K m) (K m) (client m (after m h ms) t.mark.client).num (client m (after m h ms) t.mark.client).own (client m (after m h ms) t.mark.client).cells (client m (after m h ms) t.mark.client).hosted (client m (after m h ms) t.mark.client).view x
        → TaskOwned m (client m (after m h ms) t.mark.client) x
    task_owned (Syncing s) g = g
    task_owned (Walking j os) g = g
    task_owned (Appending a y) g = tt
    task_owned (Trimming x) g = tt
    task_owned (Copying' y) g = tt
    task_owned (Reconfiguring r) g = tt

    owned : Owned k.end.client.own k.end.client.cells
    owned = owned_there m (after m h ms) t.mark.client (λ v works. task_owned (task_in m v.hand)
        (subst (λ (o : Option (Work m)). AtWork m (K m) (K m) c.num c.own c.cells c.hosted c.view o) works (owns_at m h (ms ++ Takes e ∷ []) reach trims ms (Takes e ∷ []) refl t.mark.client))) e k.end k.ended

    -- What is told unsure is the outcome of an `end`, of the record that it has appended.

    abbrev Ok : Client m → WhatOf m → Type 0
    Ok d (told.Unsure a p) = (a ≡ k.end.work.at) × (k.end.work.command ≡ cmd.End)
    Ok d what = Unit {0}

    ok_plain : (d : Client m) (what : WhatOf m) → Plain m what → Ok d what
    ok_plain d (told.Unsure a p) plain = absurd plain
    ok_plain d what plain = tt

    said : Said m Ok ok_plain (walked m k.end.client k.end.work)
    said = walked_so m Ok ok_plain k.end.client k.end.work (record {
      undecided = λ d p o kept s n none. tt;
      unsure = λ d q o ending s n le f. (refl, ending);
      none = λ d a ending came none. (refl, ending);
      same = λ d a y ending came at says known eq. (refl, ending);
      past = λ d p o z u q b is hosted view came. tt;
      rescue = λ d a q b is turn. tt;
      no_save = λ d o n is s none. tt;
      is_open = λ d o n p is s some. tt;
      no_state = λ d o q is s none. tt;
      no_past = λ d p o q u is view none. tt;
    })

    ends_so : (a p : ℕ) → t.mark.what ≡ told.Unsure a p → (a ≡ k.end.work.at) × (k.end.work.command ≡ cmd.End)
    ends_so a p what = ends_tell m Ok ok_plain h ms e reach trims t k said (told.Unsure a p) what

    -- the record that an `end` has appended is among its entries
    own_there : k.end.work.command ≡ cmd.End → commit_at (all_entries m k.end.client k.end.work k.end.work.oids) k.end.work.at ≡ None → ⊥
    own_there ending none =
        let g = own_past m h ms before t.mark.client e k.end k.ended ending in
        let r = own_record m h (ms ++ Takes e ∷ []) reach ends ms [] e refl t.mark.client k.end k.ended k.end.work.at g.0 in
        let less = g.1 in
        commit_found (all_entries m k.end.client k.end.work k.end.work.oids) k.end.work.at r.0
        (own_found m (log m (after m h (ms ++ Takes e ∷ []))) (logs_by_position m (after m h (ms ++ Takes e ∷ []))) k.end.client k.end.work found k.end.work.oids (λ o i. i) found.hosts k.end.work.at r.0 owned g.0 r.1 (omega (arith, less)))
        r.2 none

    has_record : (a p : ℕ) → t.mark.what ≡ told.Unsure a p → commit_at (all_entries m k.end.client k.end.work k.end.work.oids) a ≡ None → ⊥
    has_record a p what none = let f = ends_so a p what in own_there f.1 (subst (λ (n : ℕ). commit_at (all_entries m k.end.client k.end.work k.end.work.oids) n ≡ None) f.0 none)

    -- and none that says yes for the record that it names
    streams : k.end.work.command ≡ cmd.End → k.end.work.oids ≡ k.end.client.hosted
    streams ending = k.heard.streams (ap (λ (x : CommandOf m). widens m x) ending)

    hosted_there : k.end.work.command ≡ cmd.End → commit_at (all_entries m k.end.client k.end.work k.end.client.hosted) k.end.work.at ≡ None → ⊥
    hosted_there ending none = own_there ending (subst (λ (os : List Oid). commit_at (all_entries m k.end.client k.end.work os) k.end.work.at ≡ None) (sym (streams ending)) none)

    no_yes : (a p : ℕ) → t.mark.what ≡ told.Unsure a p → HasNoYes m (after m h ms) e t p
    no_yes a p what = record {
      had = k.end;
      walked = k.ended;
      none = subst (λ (os : List Oid). decision_in (all_entries m k.end.client k.end.work os) p ≡ Some true → ⊥) (sym (streams so.0)) so.1;
    }
      where
        so : (k.end.work.command ≡ cmd.End) × (decision_in (all_entries m k.end.client k.end.work k.end.client.hosted) p ≡ Some true → ⊥)
        so = subst (λ (y : WhatOf m). Open m k.end.client k.end.work hosted_there y) (sym k.is ∙ what)
            (open_has m k.end.client k.end.work hosted_there (walked m k.end.client k.end.work).notes k.note (walked_ok m k.end.client k.end.work hosted_there) k.here)

    one_end : (y z : Walked m) → Some y ≡ Some z → y ≡ z
    one_end y z is = cc

    lacks_not : (a p : ℕ) → t.mark.what ≡ told.Unsure a p → LacksRecord m (after m h ms) e t a → ⊥
    lacks_not a p what l = has_record a p what (subst (λ (y : Walked m). commit_at (entries_had m y) a ≡ None) (one_end l.had k.end (sym l.walked ∙ k.ended)) l.none)

  pub unsure_there : UnsureUnlessLacking m (after m h ms) e → UnsureTrue m (after m h ms) e
  unsure_there unless t a p replies what = by (unless t a p replies what)
    where
      by : IsUnsure m (after m h ms) e t a p ⊎ ((p ≡ a) × LacksRecord m (after m h ms) e t a) → IsUnsure m (after m h ms) e t a p
      by (inl x) = x
      by (inr l) =
          absurd (lacks_not t (undecided_ends m h ms e reach trims replies.replies t replies.are (has_contained replies.replies t replies.here) (λ brief. subst (Brief m) what brief)) a p what l.1)

  pub no_yes_there : UnsureUnlessYes m (after m h ms) e
  no_yes_there t a p replies what =
      no_yes t (undecided_ends m h ms e reach trims replies.replies t replies.are (has_contained replies.replies t replies.here) (λ brief. subst (Brief m) what brief)) a p what
