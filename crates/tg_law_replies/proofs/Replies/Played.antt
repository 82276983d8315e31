-- A command whose streams are walked: the client plays, to a view that is true of the log and can answer the command.
use Rattle.std.proofs.Common.{◌≡◌, ◌⊎◌, inl, inr, ℕ, List, refl, ap, ◌∙◌, subst, Option, Some, None, Contains}
use Rattle.tg_base.specs.declared.ids.Oid.{Oid}
use Rattle.tg_entry.specs.declared.entry.Entry.{Entry}
use Rattle.tg_kind.specs.Meaning.{Meaning}
use Rattle.tg_model.specs.declared.command.Command.TheVariants as cmd
use Rattle.tg_model.specs.declared.play.PlayEnd.TheVariants.{Played, Blocked}
use Rattle.tg_model.specs.Kinds.{CommandOf}
use Rattle.tg_entry.specs.Needs.{reads_of}
use Rattle.tg_protocol.specs.Words.{directory}
use Rattle.tg_protocol.specs.Views.{Entries, Base, View, Play, fate_of}
use Rattle.tg_protocol.specs.Checkpoints.{view_bases}
use Rattle.tg_protocol.specs.Past.{commit_at}
use Rattle.tg_protocol.specs.Transactions.{Tx}
use Rattle.tg_protocol.specs.Clients.{Work, Client}
use Rattle.tg_protocol.specs.Answers.{view_or_new, play_target, with_view}
use Rattle.tg_law_replies.specs.Plays.Sound.{IsRising, IsSound, base_among}
use Rattle.tg_law_replies.proofs.Plays.Kept.{starts_sound, plays_keep}
use Rattle.tg_law_replies.specs.History.Logs.{AreListed}
use Rattle.tg_law_replies.proofs.History.Members.{contained_has}
use Rattle.tg_law_replies.specs.Views.Views.{IsTrueView, StandsAt, CanJudge}
use Rattle.tg_law_replies.specs.Views.Looking.{IsTrueAt, IsJudge, IsSaver}
use Rattle.tg_law_replies.proofs.Views.Plays.{plays_true, bases_stay, played_stands, starts_true}
use Rattle.tg_law_replies.proofs.Views.Records.{commit_there}
use Rattle.tg_law_replies.specs.Replies.Found.{mine, target}
use Rattle.tg_law_replies.proofs.Replies.Stuck.{blocked_record}
use Rattle.tg_law_replies.proofs.Replies.Ready.{Suits, GoesPast, view_of, played, IsReadyToPlay}
use Rattle.tg_law_replies.proofs.Replies.Moves.{InStep, IsCommitAt, IsRightView}

module _ (m : Meaning) (objects : List Oid) (es : Entries) (rising : IsRising es) (listed : AreListed es) (tx0 : Option Tx) (n0 : ℕ) where
  abbrev Held : Client m → Type 0
  Held c = InStep m objects es rising listed tx0 n0 c

  -- The view that is played.

  begins : (c : Client m) (w : Work m) → Held c → IsReadyToPlay m objects es c w → IsTrueView m objects es (view_of m objects es c w)
  begins c w h r = by c.view refl
    where
      by : (o : Option (View m)) → c.view ≡ o → IsTrueView m objects es (view_or_new m c w (mine m c w) o)
      by None is = starts_true m objects es (view_bases m (mine m c w) w.trims c.objects c.hosted) rising (r.bases is)
      by (Some v) is = (h.right.view v is).so

  plays_so : (c : Client m) (w : Work m) → Held c → IsReadyToPlay m objects es c w → IsTrueView m objects es (played m objects es c w).view
  plays_so c w h r = plays_true m objects es (mine m c w) (view_of m objects es c w) (target m w) rising listed r.decisions r.entries (begins c w h r)

  begins_sound : (c : Client m) (w : Work m) → Held c → IsReadyToPlay m objects es c w → IsSound m (view_of m objects es c w)
  begins_sound c w h r = by c.view refl
    where
      by : (o : Option (View m)) → c.view ≡ o → IsSound m (view_or_new m c w (mine m c w) o)
      by None is = starts_sound m (view_bases m (mine m c w) w.trims c.objects c.hosted) (r.lawful is)
      by (Some v) is = (h.right.view v is).sound

  plays_sound : (c : Client m) (w : Work m) → Held c → IsReadyToPlay m objects es c w → IsSound m (played m objects es c w).view
  plays_sound c w h r = plays_keep m (mine m c w) (view_of m objects es c w) (target m w) r.entries.rising (begins_sound c w h r)

  pub keeps_right : (c : Client m) (w : Work m) → Held c → IsReadyToPlay m objects es c w → Held (with_view m c (played m objects es c w).view)
  keeps_right c w h r = record {
    right = record {
      view = λ v is. subst (λ (x : View m). IsRightView m objects es rising listed x) (one (played m objects es c w).view v is) (record {
        so = plays_so c w h r;
        sound = plays_sound c w h r;
        dir = r.dir.0;
        hosted = ap (λ (bs : List (Base m)). base_among m bs directory) (bases_stay m objects es (mine m c w) (view_of m objects es c w) (target m w) rising listed r.decisions r.entries (begins c w h r)) ∙ r.dir.1;
      });
      dir = h.right.dir;
      work = h.right.work;
    };
    tx = h.tx;
    begun = h.begun;
  }
    where
      one : (x y : View m) → Some x ≡ Some y → x ≡ y
      one x y e = cc

  here : (own : Entries) (p : ℕ) (e : Entry) → ((q : ℕ) (d : Entry) → Contains own (q, d) → Contains es (q, d)) → commit_at own p ≡ Some e → Contains es (p, e)
  here own p e only is = only p e (contained_has own (p, e) (commit_there m own p e is).0)

  -- a play of the client's own, by the command that it serves
  pub record IsTruePlay (c : Client m) (w : Work m) (own : Entries) (p : Play m) : Type 0 where
    pub so : IsTrueView m objects es p.view
    pub stuck : (q : ℕ) (x : Oid) → p.came ≡ Blocked q x → IsCommitAt m objects es rising listed q
    pub asked : (o : Oid) (q : m.ask) (t : ℕ) → w.command ≡ cmd.Ask o q → p.came ≡ Played t → IsTrueAt m objects es p.view w.tail o
    pub first : (o : Oid) (q : m.ask) (t : Tx) → w.command ≡ cmd.Ask o q → c.tx ≡ Some t → t.snapshot ≡ None
    pub ended : (t : ℕ) (e : Entry) → w.command ≡ cmd.End → p.came ≡ Played t → commit_at own w.at ≡ Some e → IsJudge m objects es p.view own w.at e × StandsAt m p.view w.at (reads_of e)
    pub judged : (at : ℕ) (e : Entry) → (w.command ≡ cmd.Fate at) ⊎ (w.command ≡ cmd.Decide at) → commit_at own at ≡ Some e → GoesPast m objects es p at → fate_of m p.view at ≡ None → IsJudge m objects es p.view own at e
    pub saves : (o : Oid) (t : ℕ) → w.command ≡ cmd.Checkpoint o → p.came ≡ Played t → IsSaver m objects es p.view o w.tail

  pub own_play_true : (c : Client m) (w : Work m) → Held c → IsReadyToPlay m objects es c w → IsTruePlay (with_view m c (played m objects es c w).view) w (mine m c w) (played m objects es c w)
  own_play_true c w h r = record {
    so = plays_so c w h r;
    stuck = λ q x came. let b = blocked_record m (mine m c w) (view_of m objects es c w) (target m w) q x came in record { entry = b.entry; here = r.entries.only q b.entry (contained_has (mine m c w) (q, b.entry) b.here); commit = b.commit };
    asked = λ o q t is came. record { so = plays_so c w h r; stands = stands t came ∙ ap (λ (x : CommandOf m). play_target m w x) is; based = r.based o };
    first = λ o q t is has. r.first o q t is has;
    ended = λ t e is came k.
        let at = stands t came ∙ ap (λ (x : CommandOf m). play_target m w x) is in (
          record { so = plays_so c w h r; decisions = r.decisions; here = here (mine m c w) w.at e r.entries.only k; commit = (commit_there m (mine m c w) w.at e k).1; can = λ none known i j b l le. at },
          λ i j b l le. at,
        );
    judged = λ at e is k past none. record { so = plays_so c w h r; decisions = r.decisions; here = here (mine m c w) at e r.entries.only k; commit = (commit_there m (mine m c w) at e k).1; can = can at is e k none past };
    saves = λ o t is came.
        let at = stands t came ∙ ap (λ (x : CommandOf m). play_target m w x) is in
        let k = suits (cmd.Checkpoint o) is at in
        record { so = plays_so c w h r; sound = plays_sound c w h r; stands = at; base = k.base; hosted = k.hosted; low = k.low; loads = k.loads };
  }
    where
      stands : (t : ℕ) → (played m objects es c w).came ≡ Played t → (played m objects es c w).view.upto ≡ target m w
      stands t came = played_stands m (mine m c w) (target m w) t (view_of m objects es c w) r.low came

      suits : (x : CommandOf m) → w.command ≡ x → Suits m objects es (mine m c w) w (view_of m objects es c w) (played m objects es c w) x
      suits x is = subst (λ (y : CommandOf m). Suits m objects es (mine m c w) w (view_of m objects es c w) (played m objects es c w) y) is r.suits

      can : (at : ℕ) → (w.command ≡ cmd.Fate at) ⊎ (w.command ≡ cmd.Decide at) → (e : Entry) → commit_at (mine m c w) at ≡ Some e → fate_of m (played m objects es c w).view at ≡ None → GoesPast m objects es (played m objects es c w) at
          → CanJudge m (played m objects es c w).view (mine m c w) at e
      can at (inl is) e k none past = suits (cmd.Fate at) is (begins c w h r) e k none past
      can at (inr is) e k none past = suits (cmd.Decide at) is (begins c w h r) e k none past
