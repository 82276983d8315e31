-- A step that tells of something undecided, and what its client had at the end of its walks.
use Rattle.std.proofs.Common.{◌≡◌, ◌⊎◌, ℕ, ◌+◌, ◌<◌, List, [], ◌∷◌, ◌++◌, map, refl, sym, ap, ◌∙◌, subst, inl, inr, arith, Option, Some}
use Rattle.tg_base.specs.Clusters.{Header}
use Rattle.tg_base.specs.declared.ids.NodeId.{NodeId}
use Rattle.tg_base.specs.declared.ids.Oid.{Oid}
use Rattle.tg_kind.specs.Meaning.{Meaning}
use Rattle.tg_model.specs.declared.command.Command.TheVariants as cmd
use Rattle.tg_model.specs.declared.command.Event.TheVariants.{Deliver}
use Rattle.tg_model.specs.declared.refusal.Refusal.TheVariants as cause
use Rattle.tg_model.specs.declared.trace.What.TheVariants as told
use Rattle.tg_model.specs.Kinds.{CommandOf, EventOf, WhatOf, NoteOf}
use Rattle.tg_protocol.specs.Past.{StuckAt, rescue_turn}
use Rattle.tg_protocol.specs.Clients.{Work, Client, all_entries}
use Rattle.tg_protocol.specs.Answers.{walked}
use Rattle.tg_protocol.specs.ClientSteps.{ClientTurn, task_in}
use Rattle.tg_protocol.specs.Walked.{Walked, walked_in}
use Rattle.tg_protocol.specs.Worlds.{CommandStart, World, Told, start, client, noted_of, log, happens}
use Rattle.tg_protocol.specs.Stuck.{WalkMetTrim, command_in, StuckTrue}
use Rattle.tg_protocol.specs.Runs.{Move, Moves, Takes, Reaches, LawfulEvent, LawfulMove, most_steps, run}
use Rattle.tg_law_layouts.specs.Moves.After.{after}
use Rattle.tg_law_layouts.proofs.Layouts.Layouts.{has_header}
use Rattle.tg_law_layouts.proofs.Moves.Lists.{contained}
use Rattle.tg_law_layouts.proofs.Moves.Members.{Has, has_either, has_map}
use Rattle.tg_law_replies.proofs.History.Members.{has_contained}
use Rattle.tg_law_replies.proofs.Books.Worlds.{nil_right}
use Rattle.tg_law_replies.proofs.Replies.Carried.{Carries, carried_by, carried}
use Rattle.tg_law_walks.specs.Lists.Spared.{TrimsWereSpare}
use Rattle.tg_law_walks.proofs.Drafts.Clients.{happens_steps}
use Rattle.tg_law_walks.proofs.Drafts.Written.{then_takes}
use Rattle.tg_law_headline.proofs.Alike.Speaks.{Speaks, Silent, Speaks', Turns, told_of, speaks}
use Rattle.tg_law_claims.proofs.Causes.Stalling.{Plain, PlainNotes, Brief, BriefNotes, PlaysKept, Said, each_has, walked_so}
use Rattle.tg_law_claims.proofs.Causes.Hearing.{EndOk}
use Rattle.tg_law_claims.proofs.Causes.Heard.{turn, Handed, deliver_hands}
use Rattle.tg_law_claims.proofs.Causes.HeardAlong.{linked, Tail, Met, State, kept_of, Tells, Plain', AtEnd, Over, hears_tells, tells, state_at}
use Rattle.tg_law_claims.proofs.Causes.Rescuing.{trim_has, rescue_stuck, stuck_trimmed}

cancel : {X : Type 0} → (xs ys zs : List X) → xs ++ ys ≡ xs ++ zs → ys ≡ zs
cancel [] ys zs e = e
cancel (x ∷ xs) ys zs e = cancel xs ys zs (tail e)
  where
    tail : x ∷ (xs ++ ys) ≡ x ∷ (xs ++ zs) → xs ++ ys ≡ xs ++ zs
    tail f = cc

module _ (m : Meaning) where
  -- a run goes on with a step
  pub goes_reach : (h : Header) (ms : Moves m) (w : World m) (e : EventOf m) → Reaches m h ms w → LawfulEvent m h e → w.steps < most_steps → Reaches m h (ms ++ Takes e ∷ []) (happens m w e)
  unfolding run
  goes_reach h ms w e r lawful few = record {
    header = r.header;
    goes = record {
      lawful = λ x i. by x (has_either ms (Takes e ∷ []) x (has_contained (ms ++ Takes e ∷ []) x i));
      is = ap (λ (v : World m). happens m v e) r.goes.is ∙ sym (then_takes m h ms e);
      few = (let a = happens_steps m w e in omega (arith, a, few));
    };
  }
    where
      by : (x : Move m) → Has ms x ⊎ Has (Takes e ∷ []) x → LawfulMove m (start m h).cluster x
      by x (inl i) = r.goes.lawful x (contained ms x i)
      by x (inr (inl is)) = subst (λ (y : Move m). LawfulMove m (start m h).cluster y) (sym is) (subst (λ (g : Header). LawfulMove m g (Takes e)) (sym (has_header m h [])) lawful)
      by x (inr (inr i)) = absurd i

  -- The command at the end of walks is the one that waits.

  module _ (w : World m) (k : ℕ) where
    abbrev IsOf : Client m → Work m → Type 0
    IsOf c v = command_in m (client m w k).work ≡ Some v.command

    carries : Carries m IsOf
    carries = record {
      turned = λ c v n g i. i;
      taken = λ c v o x i. i;
      known = λ c v s t ls lo i. i;
      given = λ c v b i. i;
      over = λ c v i. i;
      again = λ c v i. i;
      stood = λ c v q i. i;
    }

    pub command_waits : (e : EventOf m) (y : Walked m) → walked_in m w e k ≡ Some y → command_in m (client m w k).work ≡ Some y.work.command
    command_waits e y is = carried m IsOf carries w e k y (λ v works. carried_by m IsOf carries (client m w k) v (task_in m v.hand) (ap (λ (o : Option (Work m)). command_in m o) works)) is

  -- What is told of something undecided is told at the end of walks.

  -- the client had this, and is this then
  pub record AtWalksEnd (h : Header) (ms : Moves m) (e : EventOf m) (r : Reaches m h (ms ++ Takes e ∷ []) (after m h (ms ++ Takes e ∷ []))) (trims : TrimsWereSpare m h (ms ++ Takes e ∷ [])) (t : Told m) : Type 0 where
    pub end : Walked m
    pub ended : walked_in m (after m h ms) e t.mark.client ≡ Some end
    pub heard : EndOk m (log m (after m h (ms ++ Takes e ∷ []))) (linked m h (ms ++ Takes e ∷ []) r trims) t.noted.next (Tail m h (ms ++ Takes e ∷ []) r trims t.mark.client t.noted.next) (Met m h (ms ++ Takes e ∷ []) r trims t.mark.client t.noted.next) end
    pub note : NoteOf m
    pub here : Has (walked m end.client end.work).notes note
    pub is : t.mark.what ≡ note.what
    pub now : client m (happens m (after m h ms) e) t.mark.client ≡ record (walked m end.client end.work).now { calls = (walked m end.client end.work).now.calls + 1 }

  -- what is told then is as all is that the client tells
  module _ (Ok : Client m → WhatOf m → Type 0) (ok : (d : Client m) (what : WhatOf m) → Plain m what → Ok d what) (h : Header) (ms : Moves m) (e : EventOf m) (r : Reaches m h (ms ++ Takes e ∷ []) (after m h (ms ++ Takes e ∷ []))) (trims : TrimsWereSpare m h (ms ++ Takes e ∷ [])) (t : Told m)
      (k : AtWalksEnd h ms e r trims t) (said : Said m Ok ok (walked m k.end.client k.end.work)) where
    pub ends_tell : (what : WhatOf m) → t.mark.what ≡ what → Ok (walked m k.end.client k.end.work).now what
    ends_tell what is = subst (λ (y : WhatOf m). Ok (walked m k.end.client k.end.work).now y) (sym k.is ∙ is) (each_has m Ok ok (walked m k.end.client k.end.work).now (walked m k.end.client k.end.work).notes k.note said.notes k.here)

  plain_has : (ns : List (NoteOf m)) (n : NoteOf m) → PlainNotes m ns → Has ns n → Plain m n.what
  plain_has [] n k i = absurd i
  plain_has (x ∷ ns) n k (inl e) = subst (λ (y : NoteOf m). Plain m y.what) (sym e) k.0
  plain_has (x ∷ ns) n k (inr i) = plain_has ns n k.1 i

  brief_has : (ns : List (NoteOf m)) (n : NoteOf m) → BriefNotes m ns → Has ns n → Brief m n.what
  brief_has [] n k i = absurd i
  brief_has (x ∷ ns) n k (inl e) = subst (λ (y : NoteOf m). Brief m y.what) (sym e) k.0
  brief_has (x ∷ ns) n k (inr i) = brief_has ns n k.1 i

  module _ (h : Header) (ms : Moves m) (e : EventOf m) (r : Reaches m h (ms ++ Takes e ∷ []) (after m h (ms ++ Takes e ∷ []))) (trims : TrimsWereSpare m h (ms ++ Takes e ∷ [])) where
    abbrev w : World m
    w = after m h ms

    told_there : (t : Told m) (n : ℕ) (x : ClientTurn m) (s : CommandStart) → (Brief m t.mark.what → ⊥) → (y : NoteOf m) → Has x.notes y → t ≡ told_of m (after m h ms) n s y → client m (happens m (after m h ms) e) n ≡ x.now
        → Tells m h (ms ++ Takes e ∷ []) r trims ms e [] refl n s x → AtWalksEnd h ms e r trims t
    told_there t n x s some y i same now (Plain' k) = absurd (some (subst (λ (z : Told m). Brief m z.mark.what) (sym same) (brief_has x.notes y k i)))
    told_there t n x s some y i same now (AtEnd end is notes then ok) = subst (AtWalksEnd h ms e r trims) (sym same) (record {
      end = end;
      ended = is;
      heard = ok;
      note = y;
      here = subst (λ (ns : List (NoteOf m)). Has ns y) notes i;
      is = refl;
      now = now ∙ then;
    })

    state : State m h (ms ++ Takes e ∷ []) r trims (after m h ms)
    state = state_at m h (ms ++ Takes e ∷ []) r trims ms (Takes e ∷ []) refl

    now_is : (n : ℕ) (x : ClientTurn m) (s : CommandStart) (v : World m) → Turns m (after m h ms) v n x s n → client m v n ≡ x.now
    now_is n x s v (inl a) = a.1
    now_is n x s v (inr a) = absurd (a.2 refl)

    pub undecided_ends : (added : List (Told m)) (t : Told m) → (happens m (after m h ms) e).told ≡ (after m h ms).told ++ added → Has added t → (Brief m t.mark.what → ⊥) → AtWalksEnd h ms e r trims t
    undecided_ends added t are i some = by (speaks m (after m h ms) e)
      where
        by : Speaks m (after m h ms) e (happens m (after m h ms) e) → AtWalksEnd h ms e r trims t
        by (Silent x c nn) = absurd (subst (λ (ts : List (Told m)). Has ts t) (cancel (after m h ms).told added [] (sym are ∙ (x ∙ sym (nil_right (after m h ms).told)))) i)
        by (Speaks' n x s j noted grown f b) =
            let z = has_map (told_of m (after m h ms) n s) x.notes t (subst (λ (ts : List (Told m)). Has ts t) (cancel (after m h ms).told added (map (told_of m (after m h ms) n s) x.notes) (sym are ∙ grown)) i) in
            told_there t n x s some z.of z.has z.is (now_is n x s (happens m (after m h ms) e) (f n))
            (tells m h (ms ++ Takes e ∷ []) r trims ms e [] refl n s (kept_of m h (ms ++ Takes e ∷ []) r trims (after m h ms) n s noted (state n)) x j b)

    -- and where no command was given, so is each reply that isn't plain
    pub handed_ends : (i : ℕ) → e ≡ Deliver i → (added : List (Told m)) (t : Told m) → (happens m (after m h ms) e).told ≡ (after m h ms).told ++ added → Has added t → (Plain m t.mark.what → ⊥) → AtWalksEnd h ms e r trims t
    handed_ends i event added t are has some = by (subst (λ (u : EventOf m). Handed m (after m h ms) i (happens m (after m h ms) u) ⊎ ((happens m (after m h ms) u).told ≡ (after m h ms).told)) (sym event) (deliver_hands m (after m h ms) i))
      where
        over : (g : Handed m (after m h ms) i (happens m (after m h ms) e)) → (y : NoteOf m) → Has (turn m (after m h ms) g.packet).notes y → t ≡ told_of m (after m h ms) g.packet.to.num (noted_of m (after m h ms) g.packet.to.num) y
            → PlainNotes m (turn m (after m h ms) g.packet).notes ⊎ Over m h (ms ++ Takes e ∷ []) r trims ms e [] refl g.packet.to.num (noted_of m (after m h ms) g.packet.to.num) (turn m (after m h ms) g.packet) → AtWalksEnd h ms e r trims t
        over g y j same (inl k) = absurd (some (subst (λ (z : Told m). Plain m z.mark.what) (sym same) (plain_has (turn m (after m h ms) g.packet).notes y k j)))
        over g y j same (inr o) = subst (AtWalksEnd h ms e r trims) (sym same) (record {
          end = o.end;
          ended = o.ended;
          heard = o.heard;
          note = y;
          here = subst (λ (ns : List (NoteOf m)). Has ns y) o.notes j;
          is = refl;
          now = g.now ∙ o.now;
        })

        by : Handed m (after m h ms) i (happens m (after m h ms) e) ⊎ ((happens m (after m h ms) e).told ≡ (after m h ms).told) → AtWalksEnd h ms e r trims t
        by (inr x) = absurd (subst (λ (ts : List (Told m)). Has ts t) (cancel (after m h ms).told added [] (sym are ∙ (x ∙ sym (nil_right (after m h ms).told)))) has)
        by (inl g) =
            let z = has_map (told_of m (after m h ms) g.packet.to.num (noted_of m (after m h ms) g.packet.to.num)) (turn m (after m h ms) g.packet).notes t
            (subst (λ (ts : List (Told m)). Has ts t) (cancel (after m h ms).told added (map (told_of m (after m h ms) g.packet.to.num (noted_of m (after m h ms) g.packet.to.num)) (turn m (after m h ms) g.packet).notes) (sym are ∙ g.grown)) has) in
            over g z.of z.has z.is
            (hears_tells m h (ms ++ Takes e ∷ []) r trims ms e [] refl g.packet.to.num (noted_of m (after m h ms) g.packet.to.num) (state g.packet.to.num) g.packet g.sent g.to
            (record { at = i; event = event; got = g.got; of_client = ap (λ (a : NodeId). a.role) g.to; num = refl; on = g.on }))

    -- what a client told that it met, by its reply
    pub met_of : (t : Told m) (o : Oid) → Met m h (ms ++ Takes e ∷ []) r trims t.mark.client t.noted.next o → WalkMetTrim m (after m h (ms ++ Takes e ∷ [])) t o
    met_of t o x = record {
      tail = x.tail;
      links = x.links;
      synced = record { rid = x.synced.rid; now = x.synced.now; sent = x.synced.sent };
      link = x.link;
      linked = x.linked;
      stream = x.stream;
      pos = x.pos;
      walked = x.walked;
      unit = x.unit;
      rid = x.rid;
      now = x.now;
      request = x.request;
      asks = x.asks;
      asked = x.asked;
      below = x.below;
      gone = x.gone;
    }

    -- A rescue.

    abbrev Ok : Walked m → Told m → Client m → WhatOf m → Type 0
    Ok end t d (told.Refused (cause.Undecided q o)) = (p : ℕ) → end.work.command ≡ cmd.Rescue p → WalkMetTrim m (after m h (ms ++ Takes e ∷ [])) t o
    Ok end t d what = Unit {0}

    ok_plain : (end : Walked m) (t : Told m) (d : Client m) (what : WhatOf m) → Plain m what → Ok end t d what
    ok_plain end t d (told.Refused (cause.Undecided q o)) k = absurd k
    ok_plain end t d what k = tt

    kept_rescue : (x : CommandOf m) (p : ℕ) → PlaysKept m x → x ≡ cmd.Rescue p → ⊥
    kept_rescue x p k is = subst (PlaysKept m) is k

    asked_rescue : (x : CommandOf m) (a p : ℕ) (o : Oid) (q : m.ask) → x ≡ cmd.AskAt a o q → x ≡ cmd.Rescue p → ⊥
    asked_rescue x a p o q is same = no (sym is ∙ same)
      where
        no : ◌≡◌ {A = CommandOf m} (cmd.AskAt a o q) (cmd.Rescue p) → ⊥
        no z = cc

    pub rescues_stuck : (t : Told m) (p q : ℕ) (o : Oid) → command_in m (client m (after m h ms) t.mark.client).work ≡ Some (cmd.Rescue p) → t.mark.what ≡ told.Refused (cause.Undecided q o) → AtWalksEnd h ms e r trims t
        → WalkMetTrim m (after m h (ms ++ Takes e ∷ [])) t o
    rescues_stuck t p q o rescue what k =
        let c = k.end.client in
        let v = k.end.work in
        let said = walked_so m (Ok k.end t) (ok_plain k.end t) c v (record {
          undecided = λ d a x kept s u i. λ b is. absurd (kept_rescue v.command b kept is);
          unsure = λ d a x ending s u le f. tt;
          none = λ d a ending came none. tt;
          same = λ d a y ending came at says known eq. tt;
          no_save = λ d o n i s f. tt;
          is_open = λ d o n p i s f. tt;
          no_state = λ d o q i s f. tt;
          no_past = λ d p o q v i j f. tt;
          past = λ d a x ask u b y is s view came. λ z other. absurd (asked_rescue v.command a z x ask is other);
          rescue = λ d a b x is turn. λ z other. met_of t x (trimmed k a b x turn);
        }) in
        ends_tell (Ok k.end t) (ok_plain k.end t) h ms e r trims t k said (told.Refused (cause.Undecided q o)) what p
        (same_command k.end.work.command (cmd.Rescue p) (sym (command_waits (after m h ms) t.mark.client e k.end k.ended) ∙ rescue))
      where
        same_command : (a b : CommandOf m) → Some a ≡ Some b → a ≡ b
        same_command a b z = cc

        trimmed : (k : AtWalksEnd h ms e r trims t) (a b : ℕ) (x : Oid) → rescue_turn m (all_entries m k.end.client k.end.work k.end.work.oids) k.end.work.trims k.end.work.oids k.end.client.objects a ≡ StuckAt b x → Met m h (ms ++ Takes e ∷ []) r trims t.mark.client t.noted.next x
        trimmed k a b x turn =
            let s = rescue_stuck m (all_entries m k.end.client k.end.work k.end.work.oids) k.end.work.trims k.end.client.objects k.end.work.oids a b x turn in
            let g = stuck_trimmed m (all_entries m k.end.client k.end.work k.end.work.oids) k.end.work.trims k.end.client.objects k.end.work.oids a b x s in
            let z = trim_has k.end.work.trims x g.0 g.1 in
            subst (Met m h (ms ++ Takes e ∷ []) r trims t.mark.client t.noted.next) z.2 (k.heard.met z.0 z.1)

  -- Of a step of a run in which trims were spare.
  pub stuck_true : (h : Header) (ms : Moves m) (w : World m) (e : EventOf m) → Reaches m h ms w → LawfulEvent m h e → w.steps < most_steps → TrimsWereSpare m h (ms ++ Takes e ∷ []) → StuckTrue m w e
  stuck_true h ms w e r lawful few trims =
      subst (λ (u : World m). StuckTrue m u e) (sym r.goes.is) (λ added t p q o are i rescue what.
      subst (λ (u : World m). WalkMetTrim m u t o) (then_takes m h ms e)
      (rescues_stuck h ms e reach trims t p q o rescue what (undecided_ends h ms e reach trims added t are (has_contained added t i) (not_plain t q o what))))
    where
      reach : Reaches m h (ms ++ Takes e ∷ []) (after m h (ms ++ Takes e ∷ []))
      reach = let g = goes_reach h ms w e r lawful few in subst (Reaches m h (ms ++ Takes e ∷ [])) g.goes.is g

      not_plain : (t : Told m) (q : ℕ) (o : Oid) → t.mark.what ≡ told.Refused (cause.Undecided q o) → Brief m t.mark.what → ⊥
      not_plain t q o is k = subst (Brief m) is k
