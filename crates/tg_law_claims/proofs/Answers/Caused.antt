-- Each refusal has its cause: of what walks find, and of whether an object is hosted, by the end of the walks.
use Rattle.std.proofs.Common.{◌≡◌, ℕ, ◌<◌, List, [], ◌∷◌, ◌++◌, map, refl, sym, ap, ◌∙◌, subst, inr, Some, None}
use Rattle.tg_base.specs.Clusters.{Header}
use Rattle.tg_base.specs.declared.ids.Oid.{Oid}
use Rattle.tg_kind.specs.Meaning.{Meaning}
use Rattle.tg_model.specs.declared.command.Command.TheVariants as cmd
use Rattle.tg_model.specs.declared.command.Event.TheVariants.{Command as Commands, Deliver, Lose, Tick, Stop}
use Rattle.tg_model.specs.declared.refusal.Refusal.{Refusal}
use Rattle.tg_model.specs.declared.refusal.Refusal.TheVariants as cause
use Rattle.tg_model.specs.declared.trace.What.TheVariants as told
use Rattle.tg_model.specs.Kinds.{CommandOf, EventOf, WhatOf}
use Rattle.tg_protocol.specs.Answers.{walked}
use Rattle.tg_protocol.specs.Causes.{AsksOf, HasNoBase, IsOpen, IsForget, HasCause}
use Rattle.tg_protocol.specs.Checkpoints.{NoCheckpoint, OpenDecision, may_forget}
use Rattle.tg_protocol.specs.Clients.{Client, member_entries}
use Rattle.tg_protocol.specs.Past.{PastView, past_base, past_play, past_at}
use Rattle.tg_protocol.specs.Playing.{Replies}
use Rattle.tg_protocol.specs.Runs.{Moves, Takes, Reaches, LawfulEvent, most_steps}
use Rattle.tg_protocol.specs.Views.{View, Play, state_of, view_start}
use Rattle.tg_protocol.specs.Worlds.{World, Told, happens}
use Rattle.tg_law_layouts.specs.Moves.After.{after}
use Rattle.tg_law_layouts.proofs.Moves.Lists.{contained}
use Rattle.tg_law_layouts.proofs.Moves.Members.{Has}
use Rattle.tg_law_replies.specs.History.Worlds.{entries_in}
use Rattle.tg_law_replies.specs.Replies.Ended.{AppendsEnd}
use Rattle.tg_law_replies.specs.Replies.Laws.{ClientsFind}
use Rattle.tg_law_replies.proofs.History.Members.{has_contained}
use Rattle.tg_law_walks.specs.Lists.Spared.{TrimsWereSpare}
use Rattle.tg_law_walks.proofs.Drafts.Written.{then_takes}
use Rattle.tg_law_syncs.specs.Finds.Left.{SavesPrecede}
use Rattle.tg_law_claims.proofs.Causes.Causing as causing
use Rattle.tg_law_claims.proofs.Causes.Heard.{silent, lose_tells, tick_tells, stop_tells}
use Rattle.tg_law_claims.proofs.Causes.PastBases.{past_oid}
use Rattle.tg_law_claims.proofs.Causes.Stalled.{goes_reach, AtWalksEnd, ends_tell, handed_ends}
use Rattle.tg_law_claims.proofs.Causes.Stalling.{Plain, widens, Said, hosted_entries, kept_play, walked_so}
use Rattle.tg_law_claims.proofs.Answers.Forgets.{no_base, is_open}
use Rattle.tg_law_claims.proofs.Answers.Hosted.{asked_hosted, played_has}
use Rattle.tg_law_claims.proofs.Answers.States.{HasState, play_keeps, start_has}

-- the refusals that come of what walks find
abbrev pub IsFound : Refusal → Type 0
IsFound (cause.NoCheckpoint o) = Unit {0}
IsFound (cause.OpenDecision p) = Unit {0}
IsFound (cause.NotHosted o) = Unit {0}
IsFound why = ⊥

module _ (m : Meaning) where
  -- each of them has its cause in a step that gives no command
  abbrev pub FoundTrue : World m → EventOf m → Type 0
  FoundTrue w e = ((k : ℕ) (x : CommandOf m) → e ≡ Commands k x → ⊥) → (t : Told m) (why : Refusal) → Replies m w e t → t.mark.what ≡ told.Refused why → IsFound why → HasCause m w e t why

module _ (m : Meaning) (h : Header) (ms : Moves m) (e : EventOf m) (before : Reaches m h ms (after m h ms)) (r : Reaches m h (ms ++ Takes e ∷ []) (after m h (ms ++ Takes e ∷ []))) (trims : TrimsWereSpare m h (ms ++ Takes e ∷ []))
    (precede : SavesPrecede m (entries_in m (after m h (ms ++ Takes e ∷ [])))) (finds : ClientsFind m h (ms ++ Takes e ∷ []) (after m h (ms ++ Takes e ∷ []))) (ends : AppendsEnd m h (ms ++ Takes e ∷ []) (after m h (ms ++ Takes e ∷ []))) where
  module _ (t : Told m) (k : AtWalksEnd m h ms e r trims t) where
    abbrev Ok : Client m → WhatOf m → Type 0
    Ok d (told.Refused (cause.NoCheckpoint o)) = HasCause m (after m h ms) e t (cause.NoCheckpoint o)
    Ok d (told.Refused (cause.OpenDecision p)) = HasCause m (after m h ms) e t (cause.OpenDecision p)
    Ok d (told.Refused (cause.NotHosted o)) = HasCause m (after m h ms) e t (cause.NotHosted o)
    Ok d what = Unit {0}

    ok_plain : (d : Client m) (what : WhatOf m) → Plain m what → Ok d what
    ok_plain d (told.Refused (cause.NoCheckpoint o)) plain = absurd plain
    ok_plain d (told.Refused (cause.OpenDecision p)) plain = absurd plain
    ok_plain d (told.Refused (cause.NotHosted o)) plain = absurd plain
    ok_plain d what plain = tt

    -- the object of which the command asks is hosted
    hosted : (x : CommandOf m) (o : Oid) → k.end.work.command ≡ x → AsksOf m x o → Has k.end.client.hosted o
    hosted x o is a = asked_hosted m h ms e t.mark.client k.end k.ended o (subst (λ (y : CommandOf m). AsksOf m y o) (sym is) a)

    no_save : (o : Oid) (n : ℕ) → k.end.work.command ≡ cmd.Forget o n → may_forget m (hosted_entries m k.end.client k.end.work) o n ≡ Some NoCheckpoint → HasCause m (after m h ms) e t (cause.NoCheckpoint o)
    no_save o n is none = record {
      command = k.end.work.command;
      answered = causing.waited m h ms e r trims t k;
      because = inr (subst (λ (x : CommandOf m). IsForget m x (λ p j. (p ≡ o) × HasNoBase m (happens m (after m h ms) e) t o j)) (sym is) (
        refl,
        subst (λ (u : World m). HasNoBase m u t o n) (then_takes m h ms e)
            (no_base m h ms e r trims before precede t k o n is (contained k.end.client.hosted o (hosted (cmd.Forget o n) o is refl)) none),
      ));
    }

    open_below : (o : Oid) (n p : ℕ) → k.end.work.command ≡ cmd.Forget o n → may_forget m (hosted_entries m k.end.client k.end.work) o n ≡ Some (OpenDecision p) → HasCause m (after m h ms) e t (cause.OpenDecision p)
    open_below o n p is some = record {
      command = k.end.work.command;
      answered = causing.waited m h ms e r trims t k;
      because = inr (subst (λ (x : CommandOf m). IsForget m x (λ q j. IsOpen m (after m h ms) e t q j p)) (sym is) (is_open m h ms e r trims before precede t k o n p is some));
    }

    none_has : (v : View m) (o : Oid) → HasState m v o → state_of m v o ≡ None → ⊥
    none_has v o s none = no s.0 (sym none ∙ s.1)
      where
        no : (x : m.state) → None ≡ Some x → ⊥
        no x z = cc

    -- a view has a state of each hosted object
    no_state : (o : Oid) (q : m.ask) → k.end.work.command ≡ cmd.Ask o q → state_of m (kept_play m k.end.client k.end.work).view o ≡ None → ⊥
    no_state o q is none = none_has (kept_play m k.end.client k.end.work).view o (played_has m h ms e r finds ends t.mark.client k.end k.ended o (hosted (cmd.Ask o q) o is refl)) none

    -- so has a past one
    no_past : (p : ℕ) (o : Oid) (q : m.ask) (u : Play m) → k.end.work.command ≡ cmd.AskAt p o q
        → past_at m (member_entries m k.end.client k.end.work k.end.work.oids) k.end.work.trims k.end.work.oids k.end.client.objects o p ≡ PastView u → state_of m u.view o ≡ None → ⊥
    no_past p o q u is view none = none_has (past_play m (member_entries m k.end.client k.end.work k.end.work.oids) k.end.work.trims k.end.work.oids k.end.client.objects p).view o
        (play_keeps m (member_entries m k.end.client k.end.work k.end.work.oids) (view_start m (map (past_base m (member_entries m k.end.client k.end.work k.end.work.oids) k.end.work.trims k.end.client.objects p) k.end.work.oids)) p o
        (start_has m (past_base m (member_entries m k.end.client k.end.work k.end.work.oids) k.end.work.trims k.end.client.objects p) k.end.work.oids o
        (past_oid m (member_entries m k.end.client k.end.work k.end.work.oids) k.end.work.trims k.end.client.objects p) (causing.has_has_oid o k.end.work.oids there)))
        (ap (λ (y : Play m). state_of m y.view o) (sym (causing.past_view m h ms e r trims t k (member_entries m k.end.client k.end.work k.end.work.oids) k.end.work.trims k.end.work.oids k.end.client.objects o p u view)) ∙ none)
      where
        there : Has k.end.work.oids o
        there = subst (λ (os : List Oid). Has os o) (sym (k.heard.streams (ap (λ (y : CommandOf m). widens m y) is))) (hosted (cmd.AskAt p o q) o is refl)

    said : Said m Ok ok_plain (walked m k.end.client k.end.work)
    said = walked_so m Ok ok_plain k.end.client k.end.work (record {
      undecided = λ d p o kept s n none. tt;
      unsure = λ d q o ending s n le f. tt;
      none = λ d a ending came none. tt;
      same = λ d a y ending came at says known eq. tt;
      past = λ d p o z u q b is hosted view came. tt;
      no_save = λ d o n is s none. no_save o n is none;
      is_open = λ d o n p is s some. open_below o n p is some;
      no_state = λ d o q is s none. absurd (no_state o q is none);
      no_past = λ d p o q u is view none. absurd (no_past p o q u is view none);
      rescue = λ d a q b is turn. tt;
    })

    told_so : (why : Refusal) → t.mark.what ≡ told.Refused why → Ok (walked m k.end.client k.end.work).now (told.Refused why)
    told_so why what = ends_tell m Ok ok_plain h ms e r trims t k said (told.Refused why) what

  found_plainly : (why : Refusal) → IsFound why → Plain m (told.Refused why) → ⊥
  found_plainly (cause.NoCheckpoint o) found k = k
  found_plainly (cause.OpenDecision p) found k = k
  found_plainly (cause.NotHosted o) found k = k
  found_plainly why found k = found

  handed_true : (i : ℕ) → e ≡ Deliver i → (t : Told m) (why : Refusal) → Replies m (after m h ms) e t → t.mark.what ≡ told.Refused why → IsFound why → HasCause m (after m h ms) e t why
  handed_true i event t why rep is found = by why is found
    where
      end : (x : Refusal) → t.mark.what ≡ told.Refused x → IsFound x → AtWalksEnd m h ms e r trims t
      end x is found = handed_ends m h ms e r trims i event rep.replies t rep.are (has_contained rep.replies t rep.here) (λ plain. found_plainly x found (subst (Plain m) is plain))

      by : (x : Refusal) → t.mark.what ≡ told.Refused x → IsFound x → HasCause m (after m h ms) e t x
      by (cause.NoCheckpoint o) is found = told_so t (end (cause.NoCheckpoint o) is found) (cause.NoCheckpoint o) is
      by (cause.OpenDecision p) is found = told_so t (end (cause.OpenDecision p) is found) (cause.OpenDecision p) is
      by (cause.NotHosted o) is found = told_so t (end (cause.NotHosted o) is found) (cause.NotHosted o) is
      by x is found = absurd found

  found_there : FoundTrue m (after m h ms) e
  found_there not_given t why rep is found = by e refl
    where
      here : Has rep.replies t
      here = has_contained rep.replies t rep.here

      quiet : (x : EventOf m) → e ≡ x → (happens m (after m h ms) x).told ≡ (after m h ms).told → HasCause m (after m h ms) e t why
      quiet x z q = absurd (silent m (after m h ms) (happens m (after m h ms) e) (subst (λ (u : EventOf m). (happens m (after m h ms) u).told ≡ (after m h ms).told) (sym z) q) t rep.replies rep.are here)

      by : (x : EventOf m) → e ≡ x → HasCause m (after m h ms) e t why
      by (Commands k x) z = absurd (not_given k x z)
      by (Deliver i) z = handed_true i z t why rep is found
      by (Lose i) z = quiet (Lose i) z (lose_tells m (after m h ms) i)
      by (Tick n) z = quiet (Tick n) z (tick_tells m (after m h ms) n)
      by (Stop n) z = quiet (Stop n) z (stop_tells m (after m h ms) n)

module _ (m : Meaning) (h : Header) (ms : Moves m) (w : World m) (e : EventOf m) (r : Reaches m h ms w) (lawful : LawfulEvent m h e) (few : w.steps < most_steps) (trims : TrimsWereSpare m h (ms ++ Takes e ∷ []))
    (precede : SavesPrecede m (entries_in m (happens m w e))) (finds : ClientsFind m h (ms ++ Takes e ∷ []) (happens m w e)) (ends : AppendsEnd m h (ms ++ Takes e ∷ []) (happens m w e)) where
  g : Reaches m h (ms ++ Takes e ∷ []) (happens m w e)
  g = goes_reach m h ms w e r lawful few

  pub found_true : FoundTrue m w e
  found_true = subst (λ (u : World m). FoundTrue m u e) (sym r.goes.is)
      (found_there m h ms e (subst (Reaches m h ms) r.goes.is r) (subst (Reaches m h (ms ++ Takes e ∷ [])) g.goes.is g) trims (subst (λ (u : World m). SavesPrecede m (entries_in m u)) g.goes.is precede)
      (subst (ClientsFind m h (ms ++ Takes e ∷ [])) g.goes.is finds) (subst (AppendsEnd m h (ms ++ Takes e ∷ [])) g.goes.is ends))
