-- What a refusal keeps, and what is kept while a command waits.
use Rattle.std.proofs.Common.{◌≡◌, ℕ, ◌+◌, List, [], ◌∷◌, ◌++◌, map, refl, sym, ap, ◌∙◌, subst, inl, inr, Option, Some, None}
use Rattle.tg_base.specs.Clusters.{Header}
use Rattle.tg_kind.specs.Meaning.{Meaning}
use Rattle.tg_model.specs.declared.command.Event.TheVariants.{Command as Commanding, Deliver}
use Rattle.tg_model.specs.declared.refusal.Refusal.{Refusal}
use Rattle.tg_model.specs.declared.trace.What.TheVariants as told
use Rattle.tg_model.specs.Kinds.{CommandOf, EventOf, NoteOf, WhatOf}
use Rattle.tg_protocol.specs.Words.{numbers}
use Rattle.tg_protocol.specs.Clients.{Work, Client, new_client}
use Rattle.tg_protocol.specs.ClientSteps.{ClientTurn, client_tick, tick_by}
use Rattle.tg_protocol.specs.Worlds.{CommandStart, World, Told, start, client, happens}
use Rattle.tg_protocol.specs.Runs.{Moves, EachStep, Reaches}
use Rattle.tg_protocol.specs.Playing.{Replies, Answers}
use Rattle.tg_protocol.specs.Causes.{IsRefused, IsSilent, KeepsHosts, KeepsTx, RefusalsKeep}
use Rattle.tg_law_layouts.specs.Moves.Configs.{Config, config, client_in}
use Rattle.tg_law_layouts.proofs.Moves.Lists.{at_set, at_map, contained}
use Rattle.tg_law_layouts.proofs.Moves.Members.{Has, has_contained, has_map}
use Rattle.tg_law_layouts.proofs.Moves.Moves.{ClientInput, Commanded, Hears', Ticks', Cases, run_keeps}
use Rattle.tg_law_replies.proofs.Books.Worlds.{cancel, nil_right}
use Rattle.tg_law_headline.proofs.Alike.Speaks.{From, Speaks, Silent, Speaks', Turns, told_of, speaks}
use Rattle.tg_law_claims.proofs.Causes.Turns.{NotRefused, NoneRefused, Fine, Kept, Commands, AtOnce, Taken, Told as Tells, Delivers, Quiet, Replied, Refused', commanded, delivered, ticked}

module _ (m : Meaning) where
  -- No answer that waits for its decision record is a refusal.

  abbrev pub AllFine : Config m → Type 0
  AllFine c = (k : ℕ) → Fine m (client_in m c k).work

  command_fine : (c : Client m) (t : ClientTurn m) (f : Fine m c.work) → Commands m c f t → Fine m c.work → Fine m t.now.work
  command_fine c t f (AtOnce n why e now) h = subst (λ (d : Client m). Fine m d.work) (sym now) h
  command_fine c t f (Taken e k g) h = g
  command_fine c t f (Tells n ns e k g) h = g

  deliver_fine : (c : Client m) (t : ClientTurn m) (f : Fine m c.work) → Delivers m c f t → Fine m t.now.work
  deliver_fine c t f (Quiet e k g) = g
  deliver_fine c t f (Replied n ns e k g) = g
  deliver_fine c t f (Refused' n why e k x g) = g

  turn_fine : (c : Config m) → AllFine c → (k : ℕ) (t : ClientTurn m) → ClientInput m c k t → Fine m t.now.work
  turn_fine c h k t (Commanded x) = command_fine (client_in m c k) t (h k) (commanded m (client_in m c k) (h k) x) (h k)
  turn_fine c h k t (Hears' p comes) = deliver_fine (client_in m c k) t (h k) (delivered m (client_in m c k) (h k) p.from p.rid p.msg)
  turn_fine c h k t Ticks' = deliver_fine (client_in m c k) t (h k) (ticked m (client_in m c k) (h k))

  fine_keeps : (c : Config m) → AllFine c → Cases m c AllFine
  fine_keeps c h = record {
    idle = h;
    unit = λ u p a less. h;
    layout = λ l p a less. h;
    seqr = λ s t i less. h;
    client = λ k t i less. at_set c.clients k t.now (new_client m c.cluster) (λ j d. Fine m d.work) less (turn_fine c h k t i) (λ j other. h j);
  }

  new_fine : (h : Header) (j : ℕ) → Fine m (new_client m h j).work
  unfolding new_client
  new_fine h j = tt

  start_fine : (h : Header) → AllFine (config m (start m h))
  unfolding start
  start_fine h k = at_map (new_client m h) (numbers h.clients 0) k (new_client m h k) (λ d. Fine m d.work) (new_fine h) (new_fine h k)

  pub all_fine : (h : Header) (ms : Moves m) (w : World m) → Reaches m h ms w → AllFine (config m w)
  all_fine h ms w r = subst (λ (v : World m). AllFine (config m v)) (sym r.goes.is) (run_keeps m AllFine fine_keeps ms (start m h) (start_fine h))

  -- The replies of a step.

  same_head : (x : NoteOf m) (y : NoteOf m) (ys : List (NoteOf m)) → NoneRefused m (y ∷ ys) → Has (y ∷ ys) x → NotRefused m x.what
  same_head x y [] f (inl e) = subst (λ (n : NoteOf m). NotRefused m n.what) (sym e) f.0
  same_head x y [] f (inr i) = absurd i
  same_head x y (z ∷ ys) f (inl e) = subst (λ (n : NoteOf m). NotRefused m n.what) (sym e) f.0
  same_head x y (z ∷ ys) f (inr i) = same_head x z ys f.1 i

  -- no refusal is among them
  never : (ns : List (NoteOf m)) (y : NoteOf m) (ys : List (NoteOf m)) (x : NoteOf m) (why : Refusal) → ns ≡ y ∷ ys → NoneRefused m (y ∷ ys) → Has ns x → x.what ≡ told.Refused why → ⊥
  never ns y ys x why e f i is = subst (NotRefused m) is (same_head x y ys f (subst (λ (zs : List (NoteOf m)). Has zs x) e i))

  nothing : (ns : List (NoteOf m)) (x : NoteOf m) → ns ≡ [] → Has ns x → ⊥
  nothing ns x e i = subst (λ (zs : List (NoteOf m)). Has zs x) e i

  refused_by : (why other : Refusal) → ◌≡◌ {A = WhatOf m} (told.Refused why) (told.Refused other) → why ≡ other
  refused_by why other e = cc

  one_note : (ns : List (NoteOf m)) (y x : NoteOf m) → ns ≡ y ∷ [] → Has ns x → x ≡ y
  one_note ns y x e i = by (subst (λ (zs : List (NoteOf m)). Has zs x) e i)
    where
      by : Has (y ∷ []) x → x ≡ y
      by (inl e) = e
      by (inr j) = absurd j

  -- what a turn that refuses keeps
  abbrev Keeps : Refusal → Client m → Client m → Type 0
  Keeps why c d = KeepsHosts m c d × KeepsTx m why c d

  command_refuses : (c : Client m) (t : ClientTurn m) (f : Fine m c.work) (x : NoteOf m) (why : Refusal) → Commands m c f t → Has t.notes x → x.what ≡ told.Refused why → t.now ≡ record c { calls = c.calls + 1 }
  command_refuses c t f x why (AtOnce n y e now) i is = now
  command_refuses c t f x why (Taken e k g) i is = absurd (nothing t.notes x e i)
  command_refuses c t f x why (Tells n ns e k g) i is = absurd (never t.notes n ns x why e k i is)

  called_keeps : (c d : Client m) (why : Refusal) → d ≡ record c { calls = c.calls + 1 } → Keeps why c d
  called_keeps c d why e = subst (Keeps why c) (sym e) (record { hosted = refl; dir = refl; played = refl }, inl refl)

  deliver_refuses : (c : Client m) (t : ClientTurn m) (f : Fine m c.work) (x : NoteOf m) (why : Refusal) → Delivers m c f t → Has t.notes x → x.what ≡ told.Refused why → Keeps why c t.now
  deliver_refuses c t f x why (Quiet e k g) i is = absurd (nothing t.notes x e i)
  deliver_refuses c t f x why (Replied n ns e k g) i is = absurd (never t.notes n ns x why e k i is)
  deliver_refuses c t f x why (Refused' n y e k z g) i is =
      (k, subst (λ (u : Refusal). KeepsTx m u c t.now) (sym (refused_by why y (sym is ∙ ap (λ (u : NoteOf m). u.what) (one_note t.notes _ x e i)))) z)

  no_note : {n : NoteOf m} {ns : List (NoteOf m)} (xs : List (NoteOf m)) → xs ≡ [] → xs ≡ n ∷ ns → ⊥
  no_note xs e f = absurd (no (sym e ∙ f))
    where
      no : {n : NoteOf m} {ns : List (NoteOf m)} → [] ≡ n ∷ ns → ⊥
      no z = cc

  command_quiet : (c : Client m) (t : ClientTurn m) (f : Fine m c.work) → Commands m c f t → t.notes ≡ [] → Kept m c t.now
  command_quiet c t f (AtOnce n y e now) none = absurd (no_note t.notes none e)
  command_quiet c t f (Taken e k g) none = k
  command_quiet c t f (Tells n ns e k g) none = absurd (no_note t.notes none e)

  deliver_quiet : (c : Client m) (t : ClientTurn m) (f : Fine m c.work) → Delivers m c f t → t.notes ≡ [] → Kept m c t.now
  deliver_quiet c t f (Quiet e k g) none = k
  deliver_quiet c t f (Replied n ns e k g) none = absurd (no_note t.notes none e)
  deliver_quiet c t f (Refused' n y e k z g) none = absurd (no_note t.notes none e)

  ticks_quietly : (c : Client m) → (client_tick m c).notes ≡ []
  unfolding client_tick
  ticks_quietly c = by c.work
    where
      by : (o : Option (Work m)) → (tick_by m c o).notes ≡ []
      by None = refl
      by (Some w) = refl

  -- A step.

  module _ (w : World m) (e : EventOf m) (fine : AllFine (config m w)) where
    abbrev v : World m
    v = happens m w e

    turn_refuses : (n : ℕ) (t : ClientTurn m) → ClientInput m (config m w) n t → (x : NoteOf m) (why : Refusal) → Has t.notes x → x.what ≡ told.Refused why → Keeps why (client m w n) t.now
    turn_refuses n t (Commanded y) x why i is = called_keeps (client m w n) t.now why (command_refuses (client m w n) t (fine n) x why (commanded m (client m w n) (fine n) y) i is)
    turn_refuses n t (Hears' p comes) x why i is = deliver_refuses (client m w n) t (fine n) x why (delivered m (client m w n) (fine n) p.from p.rid p.msg) i is
    turn_refuses n t Ticks' x why i is = deliver_refuses (client m w n) t (fine n) x why (ticked m (client m w n) (fine n)) i is

    turn_quiet : (n : ℕ) (t : ClientTurn m) → ClientInput m (config m w) n t → t.notes ≡ [] → Kept m (client m w n) t.now
    turn_quiet n t (Commanded y) none = command_quiet (client m w n) t (fine n) (commanded m (client m w n) (fine n) y) none
    turn_quiet n t (Hears' p comes) none = deliver_quiet (client m w n) t (fine n) (delivered m (client m w n) (fine n) p.from p.rid p.msg) none
    turn_quiet n t Ticks' none = deliver_quiet (client m w n) t (fine n) (ticked m (client m w n) (fine n)) none

    -- a reply is of the client that turned
    record Said (n : ℕ) (t : ClientTurn m) (y : Told m) : Type 0 where
      of : y.mark.client ≡ n
      note : NoteOf m
      here : Has t.notes note
      is : y.mark.what ≡ note.what

    said : (n : ℕ) (t : ClientTurn m) (s : CommandStart) (u : World m) → u.told ≡ w.told ++ map (told_of m w n s) t.notes → (y : Told m) (r : List (Told m)) → u.told ≡ w.told ++ r → Has r y → Said n t y
    said n t s u x y r are i =
        let z = has_map (told_of m w n s) t.notes y (subst (λ (ys : List (Told m)). Has ys y) (cancel w.told r (map (told_of m w n s) t.notes) (sym are ∙ x)) i) in
        record { of = ap (λ (q : Told m). q.mark.client) z.is; note = z.of; here = z.has; is = ap (λ (q : Told m). q.mark.what) z.is }

    silent_none : (u : World m) → u.told ≡ w.told → (y : Told m) (r : List (Told m)) → u.told ≡ w.told ++ r → Has r y → ⊥
    silent_none u x y r are i = subst (λ (ys : List (Told m)). Has ys y) (cancel w.told r [] (sym are ∙ (x ∙ sym (nil_right w.told)))) i

    -- the client after its turn
    now_is : (n : ℕ) (t : ClientTurn m) (s : CommandStart) (u : World m) (k : ℕ) → Turns m w u n t s k → k ≡ n → client m u k ≡ t.now
    now_is n t s u k (inl a) at = a.1
    now_is n t s u k (inr a) at = absurd (a.2 at)

    refuses : (u : World m) → Speaks m w e u → (y : Told m) (r : List (Told m)) (why : Refusal) → u.told ≡ w.told ++ r → Has r y → y.mark.what ≡ told.Refused why → Keeps why (client m w y.mark.client) (client m u y.mark.client)
    refuses u (Silent t c nn) y r why are i is = absurd (silent_none u t y r are i)
    refuses u (Speaks' n t s i noted x f b) y r why are j is =
        let z = said n t s u x y r are j in
        subst (Keeps why (client m w y.mark.client)) (sym (now_is n t s u y.mark.client (f y.mark.client) z.of))
        (subst (λ (k : ℕ). Keeps why (client m w k) t.now) (sym z.of) (turn_refuses n t i z.note why z.here (sym z.is ∙ is)))

    later : (t : Told m) (why : Refusal) → Replies m w e t → t.mark.what ≡ told.Refused why → Keeps why (client m w t.mark.client) (client m v t.mark.client)
    later t why r is = refuses v (speaks m w e) t r.replies why r.are (has_contained r.replies t r.here) is

    not_delivered : (k : ℕ) (x : CommandOf m) (i : ℕ) → e ≡ Commanding k x → e ≡ Deliver i → ⊥
    not_delivered k x i a b = no (sym a ∙ b)
      where
        no : ◌≡◌ {A = EventOf m} (Commanding k x) (Deliver i) → ⊥
        no z = cc

    once : (u : World m) (k : ℕ) (x : CommandOf m) → Speaks m w e u → e ≡ Commanding k x → (y : Told m) (r : List (Told m)) (why : Refusal) → u.told ≡ w.told ++ r → Has r y → y.mark.client ≡ k → y.mark.what ≡ told.Refused why
        → client m u k ≡ record (client m w k) { calls = (client m w k).calls + 1 }
    once u k x (Silent t c nn) ev y r why are i at is = absurd (silent_none u t y r are i)
    once u k x (Speaks' n t s i noted grown f b) ev y r why are j at is =
        let z = said n t s u grown y r are j in
        let own = sym at ∙ z.of in
        now_is n t s u k (f k) own ∙ subst (λ (q : ℕ). t.now ≡ record (client m w q) { calls = (client m w q).calls + 1 }) (sym own) (by t i b z.note z.here (sym z.is ∙ is))
      where
        by : (t : ClientTurn m) → (i : ClientInput m (config m w) n t) → From m w e n t i → (y : NoteOf m) → Has t.notes y → y.what ≡ told.Refused why → t.now ≡ record (client m w n) { calls = (client m w n).calls + 1 }
        by t (Commanded q) b y h is = command_refuses (client m w n) t (fine n) y why (commanded m (client m w n) (fine n) q) h is
        by t (Hears' p comes) b y h is = absurd (not_delivered k x b.at ev b.event)
        by t Ticks' b y h is = absurd (nothing t.notes y (ticks_quietly (client m w n)) h)

    at_once : (k : ℕ) (x : CommandOf m) → e ≡ Commanding k x → Answers m w e k (IsRefused m) → client m v k ≡ record (client m w k) { calls = (client m w k).calls + 1 }
    at_once k x ev a = once v k x (speaks m w e) ev a.told a.says.replies a.holds.0 a.says.are (has_contained a.says.replies a.told a.says.here) a.client a.holds.1

    -- a client that says nothing in a step

    silent_notes : (n : ℕ) (s : CommandStart) (ns : List (NoteOf m)) → v.told ≡ w.told ++ map (told_of m w n s) ns → IsSilent m w e n → ns ≡ []
    silent_notes n s [] x silent = refl
    silent_notes n s (y ∷ ns) x silent =
        absurd (silent (told_of m w n s y) (record { replies = map (told_of m w n s) (y ∷ ns); are = x; here = contained (map (told_of m w n s) (y ∷ ns)) (told_of m w n s y) (inl refl) }) refl)

    abbrev Rests : Client m → Client m → Type 0
    Rests c d = KeepsHosts m c d × (d.tx ≡ c.tx)

    same_rests : (c d : Client m) → d ≡ c → Rests c d
    same_rests c d x = subst (Rests c) (sym x) (record { hosted = refl; dir = refl; played = refl }, refl)

    waits : (k : ℕ) → IsSilent m w e k → Speaks m w e v → Rests (client m w k) (client m v k)
    waits k silent (Silent t c nn) = same_rests (client m w k) (client m v k) (c k)
    waits k silent (Speaks' n t s i noted x f b) = by (f k)
      where
        by : Turns m w v n t s k → Rests (client m w k) (client m v k)
        by (inl a) =
            let kept = turn_quiet n t i (silent_notes n s t.notes x (subst (IsSilent m w e) a.0 silent)) in
            subst (Rests (client m w k)) (sym a.1) (subst (λ (j : ℕ). Rests (client m w j) t.now) (sym a.0) (kept.hosts, kept.tx))
        by (inr a) = same_rests (client m w k) (client m v k) a.0

  pub refusals_keep : EachStep m (RefusalsKeep m)
  refusals_keep h ms w e r lawful few = record {
    at_once = at_once w e (all_fine h ms w r);
    later = later w e (all_fine h ms w r);
    waiting = λ k silent. waits w e (all_fine h ms w r) k silent (speaks m w e);
  }
