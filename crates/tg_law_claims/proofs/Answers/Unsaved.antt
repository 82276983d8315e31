-- Where an object may not be forgotten for want of a checkpoint: the client's walks are over, and none below their tail reaches the mark.
use Rattle.std.proofs.Common.{◌≡◌, ℕ, ◌<◌, ◌≤◌, [], ◌∷◌, ◌++◌, refl, sym, ap, ◌∙◌, subst, Some}
use Rattle.tg_base.specs.Clusters.{Header}
use Rattle.tg_base.specs.declared.ids.Oid.{Oid}
use Rattle.tg_base.specs.declared.msg.Msg.TheVariants as msg
use Rattle.tg_entry.specs.declared.entry.Entry.{Entry}
use Rattle.tg_kind.specs.Meaning.{Meaning}
use Rattle.tg_model.specs.declared.command.Command.TheVariants as cmd
use Rattle.tg_model.specs.declared.refusal.Refusal.TheVariants as cause
use Rattle.tg_model.specs.declared.trace.What.TheVariants as told
use Rattle.tg_model.specs.Kinds.{CommandOf, EventOf, WhatOf}
use Rattle.tg_protocol.specs.Alike.{SentNow, HasEntry}
use Rattle.tg_protocol.specs.Answers.{walked}
use Rattle.tg_protocol.specs.Causes.{AsksOf}
use Rattle.tg_protocol.specs.Checkpoints.{NoCheckpoint, base_at, may_forget}
use Rattle.tg_protocol.specs.Clients.{Client}
use Rattle.tg_protocol.specs.Runs.{Moves, Takes, Reaches}
use Rattle.tg_protocol.specs.Views.{Base}
use Rattle.tg_protocol.specs.Worlds.{World, Told}
use Rattle.tg_law_layouts.specs.Moves.After.{after}
use Rattle.tg_law_layouts.proofs.Moves.Lists.{contained}
use Rattle.tg_law_replies.specs.History.Worlds.{entries_in}
use Rattle.tg_law_replies.proofs.History.Members.{has_contained}
use Rattle.tg_law_walks.specs.Lists.Spared.{TrimsWereSpare}
use Rattle.tg_law_walks.proofs.Drafts.Written.{then_takes}
use Rattle.tg_law_syncs.specs.Finds.Left.{SavesPrecede}
use Rattle.tg_law_claims.proofs.Causes.Stalled.{AtWalksEnd, ends_tell, command_waits, undecided_ends}
use Rattle.tg_law_claims.proofs.Causes.Stalling.{Plain, Brief, Said, hosted_entries, walked_so}
use Rattle.tg_law_claims.specs.Answers.Confirmed.{IsUnsaved, UnsavedThere}
use Rattle.tg_law_claims.proofs.Answers.Forgets.{none_below}
use Rattle.tg_law_claims.proofs.Answers.Hosted.{asked_hosted}

module _ (m : Meaning) (h : Header) (ms : Moves m) (e : EventOf m) (before : Reaches m h ms (after m h ms)) (r : Reaches m h (ms ++ Takes e ∷ []) (after m h (ms ++ Takes e ∷ []))) (trims : TrimsWereSpare m h (ms ++ Takes e ∷ []))
    (precede : SavesPrecede m (entries_in m (after m h (ms ++ Takes e ∷ [])))) where
  module _ (t : Told m) (k : AtWalksEnd m h ms e r trims t) where
    -- what `forget` finds
    abbrev Ok : Client m → WhatOf m → Type 0
    Ok d (told.Refused (cause.NoCheckpoint o)) = (n : ℕ) × (k.end.work.command ≡ cmd.Forget o n) × (may_forget m (hosted_entries m k.end.client k.end.work) o n ≡ Some NoCheckpoint)
    Ok d what = Unit {0}

    ok_plain : (d : Client m) (what : WhatOf m) → Plain m what → Ok d what
    ok_plain d (told.Refused (cause.NoCheckpoint o)) plain = absurd plain
    ok_plain d what plain = tt

    said : Said m Ok ok_plain (walked m k.end.client k.end.work)
    said = walked_so m Ok ok_plain k.end.client k.end.work (record {
      undecided = λ d p o kept s n none. tt;
      unsure = λ d q o ending s n le f. tt;
      none = λ d a ending came none. tt;
      same = λ d a y ending came at says known eq. tt;
      past = λ d p o z u q b is hosted view came. tt;
      no_save = λ d o n is s none. (n, is, none);
      is_open = λ d o n p is s some. tt;
      no_state = λ d o q is s none. tt;
      no_past = λ d p o q u is view none. tt;
      rescue = λ d a q b is turn. tt;
    })

    found : (o : Oid) → t.mark.what ≡ told.Refused (cause.NoCheckpoint o) → (n : ℕ) × (k.end.work.command ≡ cmd.Forget o n) × (may_forget m (hosted_entries m k.end.client k.end.work) o n ≡ Some NoCheckpoint)
    found o what = ends_tell m Ok ok_plain h ms e r trims t k said (told.Refused (cause.NoCheckpoint o)) what

    is_unsaved : (o : Oid) → (n : ℕ) × (k.end.work.command ≡ cmd.Forget o n) × (may_forget m (hosted_entries m k.end.client k.end.work) o n ≡ Some NoCheckpoint) → IsUnsaved m (after m h ms) e t o
    is_unsaved o g = record {
      mark = g.0;
      command = command_waits m (after m h ms) t.mark.client e k.end k.ended ∙ ap (λ (y : CommandOf m). Some y) g.1;
      at = record {
        had = k.end;
        walked = k.ended;
        links = k.end.work.lasts;
        synced = subst (λ (u : World m). SentNow m u t (msg.Tail k.end.work.tail k.end.work.lasts)) (then_takes m h ms e) (record { rid = k.heard.tail.rid; now = k.heard.tail.now; sent = k.heard.tail.sent });
      };
      none = λ p d b there. none p d b (subst (λ (u : World m). HasEntry m u p d) (sym (then_takes m h ms e)) there);
    }
      where
        none : (p : ℕ) (d : Entry) (b : Base m) → HasEntry m (after m h (ms ++ Takes e ∷ [])) p d → p < k.end.work.tail → base_at m o d ≡ Some b → g.0 ≤ b.upto → ⊥
        none = none_below m h ms e r trims before precede t k o g.0 g.1 (contained k.end.client.hosted o (asked_hosted m h ms e t.mark.client k.end k.ended o (subst (λ (y : CommandOf m). AsksOf m y o) (sym g.1) refl))) g.2

  pub unsaved_there : UnsavedThere m (after m h ms) e
  unsaved_there t o replies what = by (undecided_ends m h ms e r trims replies.replies t replies.are (has_contained replies.replies t replies.here) (λ brief. subst (Brief m) what brief))
    where
      by : AtWalksEnd m h ms e r trims t → IsUnsaved m (after m h ms) e t o
      by k = is_unsaved t k o (found t k o what)
