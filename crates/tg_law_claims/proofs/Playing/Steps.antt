-- Through each step of a run: how each client's view stands to its command, and why a view goes back.
use Rattle.std.proofs.Common.{◌≡◌, ◌⊎◌, ℕ, zero, suc, ◌<◌, ◌≤◌, List, [], ◌∷◌, ◌++◌, map, Bool, true, false, refl, sym, ap, ◌∙◌, subst, inl, inr, arith, Option, Some, None}
use Rattle.std.specs.Prelude.{◌&&◌, ◌||◌, ◌==◌, length, replicate}
use Rattle.tg_base.specs.Clusters.{Header}
use Rattle.tg_base.specs.Orders.{node_eq}
use Rattle.tg_base.specs.declared.ids.NodeId.{NodeId}
use Rattle.tg_base.specs.declared.ids.Oid.{Oid}
use Rattle.tg_base.specs.declared.msg.Msg.{Msg}
use Rattle.tg_base.specs.declared.msg.Msg.TheVariants as msg
use Rattle.tg_base.specs.declared.packet.Out.{Out}
use Rattle.tg_base.specs.declared.packet.Packet.{Packet}
use Rattle.tg_kind.specs.Meaning.{Meaning}
use Rattle.tg_model.specs.declared.command.Command.TheVariants as cmd
use Rattle.tg_model.specs.declared.refusal.Refusal.{Refusal}
use Rattle.tg_model.specs.declared.trace.What.TheVariants as told
use Rattle.tg_model.specs.Kinds.{CommandOf, EventOf, NoteOf}
use Rattle.tg_protocol.specs.Words.{client_id, numbers}
use Rattle.tg_protocol.specs.Requests.{awaits}
use Rattle.tg_protocol.specs.Replies.{reply, IsGone}
use Rattle.tg_protocol.specs.Clients.{Hand, Work, Client, new_client, refusal, upto}
use Rattle.tg_protocol.specs.Answers.{Moved, note}
use Rattle.tg_protocol.specs.ClientSteps.{ClientTurn, task_awaited, hosts_more, accepts, refused_or, client_command, client_deliver, client_tick}
use Rattle.tg_protocol.specs.Worlds.{CommandStart, World, start, client, noted_of, packet_of, happens, next_event}
use Rattle.tg_protocol.specs.Runs.{Moves, Next, Takes, EachStep, run}
use Rattle.tg_protocol.specs.Playing.{Answers, IsHosted, MetTrimAbove}
use Rattle.tg_law_layouts.specs.Moves.Configs.{config}
use Rattle.tg_law_layouts.proofs.Moves.Lists.{contained, at_map, at_replicate}
use Rattle.tg_law_layouts.proofs.Moves.Members.{Has, has_contained, has_left, has_right}
use Rattle.tg_law_layouts.proofs.Moves.Moves.{ClientInput, Commanded, Hears', Ticks'}
use Rattle.tg_law_layouts.proofs.Moves.Clients.{reserved, work_reserved, hand_reserved}
use Rattle.tg_law_layouts.proofs.Moves.Turns.{not_busy, command_draws, deliver_draws, tick_draws, TurnDraws'}
use Rattle.tg_law_layouts.proofs.Moves.Reconfs.{numbers_long}
use Rattle.tg_law_replies.proofs.Books.Worlds.{nil_right}
use Rattle.tg_law_claims.specs.Playing.Rules.{ViewsFallAtTrims}
use Rattle.tg_law_claims.proofs.Playing.Turns.{AsGiven, WorkAt, At', work_later, Stays, Fine, WalkHears, feed_fine, tick_fine, accepts_fine}
use Rattle.tg_law_claims.proofs.Playing.Acts.{IsCommanded, Noted, Before, Anew, IsEven, Turns, told_of, Acts, Others, Acts', acts}

is_gone : (y : Msg) (b : ℕ) → reply y ≡ IsGone b → y ≡ msg.Gone b
unfolding reply
is_gone y b h = grind arith

-- an awaited answer's request
record Asked (outs : List Out) (from : NodeId) (rid : ℕ) : Type 0 where
  of : Out
  has : Has outs of
  number : of.rid ≡ rid

asked : (outs : List Out) (from : NodeId) (rid : ℕ) → awaits outs from rid ≡ true → Asked outs from rid
asked [] from rid h = absurd (cc)
asked (o ∷ outs) from rid h = by (node_eq o.to from && (o.rid == rid)) refl (λ i. asked outs from rid i)
  where
    same : (a : Bool) (i j : ℕ) → (a && (i == j)) ≡ true → i ≡ j
    same a i j e = grind arith

    rest : (a b : Bool) → (a || b) ≡ true → a ≡ false → b ≡ true
    rest a b e f = grind arith

    by : (b : Bool) → (node_eq o.to from && (o.rid == rid)) ≡ b → (awaits outs from rid ≡ true → Asked outs from rid) → Asked (o ∷ outs) from rid
    by true e f = record { of = o; has = inl refl; number = same (node_eq o.to from) o.rid rid e }
    by false e f = let y = f (rest (node_eq o.to from && (o.rid == rid)) (awaits outs from rid) h e) in record { of = y.of; has = inr y.has; number = y.number }

module _ (m : Meaning) where
  -- a trim that was met stays met, while the command is the same
  met_on : (w v : World m) (k : ℕ) (ps : List Packet) → v.packets ≡ w.packets ++ ps → noted_of m v k ≡ noted_of m w k → MetTrimAbove m w k → MetTrimAbove m v k
  met_on w v k ps more same x = record {
    rid = x.rid;
    below = x.below;
    gone = record {
      packet = x.gone.packet;
      sent = contained v.packets _ (subst (λ (qs : List Packet). Has qs x.gone.packet) (sym more) (has_left w.packets ps _ (has_contained w.packets _ x.gone.sent)));
      to = x.gone.to;
      number = x.gone.number;
      says = x.gone.says;
    };
    now = subst (λ (z : CommandStart). z.next ≤ x.rid) (sym same) x.now;
    above = subst (λ (z : CommandStart). z.upto < x.below) (sym same) x.above;
  }

  pub record Kept (w : World m) (k : ℕ) : Type 0 where
    pub at : At' m (noted_of m w k).upto (MetTrimAbove m w k) (client m w k)
    pub numbers : (o : Out) → Has (reserved m (client m w k)) o → (noted_of m w k).next ≤ o.rid
    pub up : (noted_of m w k).next ≤ (client m w k).next

  pub record State (w : World m) : Type 0 where
    pub even : IsEven m w
    pub clients : (k : ℕ) → Kept w k

  -- Commands.

  pub record HostNote (ns : List (NoteOf m)) : Type 0 where
    pub note : NoteOf m
    pub has : Has ns note
    pub oid : Oid
    pub says : note.what ≡ told.Hosted oid

  module _ (given top : ℕ) (Met : Type 0) where
    -- the view isn't taken back, or an object is hosted
    abbrev pub TurnOk : Client m → List (NoteOf m) → Type 0
    TurnOk d ns = At' m given Met d × (Stays m given top Met (upto m d) ⊎ HostNote ns)

    hosts_ok : (c : Client m) (o : Oid) (b : Bool) → c.work ≡ None → TurnOk (hosts_more m c o b).now (hosts_more m c o b).notes
    hosts_ok c o true e = (subst (WorkAt m given Met c.view) (sym e) tt, inr (record { note = note m 0 (told.Hosted o); has = inl refl; oid = o; says = refl }))
    hosts_ok c o false e = (subst (WorkAt m given Met None) (sym e) tt, inr (record { note = note m 0 (told.Hosted o); has = inl refl; oid = o; says = refl }))

    of_fine : (x : Moved m) → Fine m given top Met x → TurnOk x.now x.notes
    of_fine x f = (f.0, inl f.1)

    command_ok : (c : Client m) (x : CommandOf m) (o : Option Refusal) → (o ≡ None → c.work ≡ None) → (c.work ≡ None → AsGiven m given Met c.view) → At' m given Met c → Stays m given top Met (upto m c) → TurnOk (refused_or m c x o).now (refused_or m c x o).notes
    unfolding accepts
    command_ok c x (Some why) free k h j = (h, inl j)
    command_ok c (cmd.Host o) None free k h j = hosts_ok c o _ (free refl)
    command_ok c x None free k h j = of_fine (accepts m c x) (accepts_fine m given top Met c (free refl) (k (free refl)) j x (λ i. i))

  -- a client that doesn't turn
  kept_other : (w v : World m) → State w → (k : ℕ) (ps : List Packet) → v.packets ≡ w.packets ++ ps → client m v k ≡ client m w k → noted_of m v k ≡ noted_of m w k → Kept v k
  kept_other w v st k ps more c n =
      let y = st.clients k in
      record {
        at = subst (At' m (noted_of m v k).upto (MetTrimAbove m v k)) (sym c) (subst (λ (z : CommandStart). At' m z.upto (MetTrimAbove m v k) (client m w k)) (sym n)
            (work_later m (noted_of m w k).upto (MetTrimAbove m w k) (MetTrimAbove m v k) (met_on w v k ps more n) (client m w k).view (client m w k).work y.at));
        numbers = λ o h. subst (λ (z : CommandStart). z.next ≤ o.rid) (sym n) (y.numbers o (subst (λ (z : Client m). Has (reserved m z) o) c h));
        up = subst (λ (z : CommandStart). z.next ≤ (client m v k).next) (sym n) (subst (λ (z : Client m). (noted_of m w k).next ≤ z.next) (sym c) y.up);
      }

  -- A step.

  module _ (w : World m) (e : EventOf m) (st : State w) where
    abbrev v : World m
    v = happens m w e

    module _ (n : ℕ) (t : ClientTurn m) (s : CommandStart) (i : ClientInput m (config m w) n t) (noted : Noted m w n s (IsCommanded m w n t i)) (sent : v.packets ≡ w.packets ++ map (packet_of m (client_id n)) t.sends)
        (here : noted_of m v n ≡ s) where
      abbrev c : Client m
      c = client m w n

      abbrev Met : Type 0
      Met = MetTrimAbove m v n

      at_before : At' m s.upto Met c
      at_before = by noted
        where
          by : Noted m w n s (IsCommanded m w n t i) → At' m s.upto Met c
          by (Before is never) = subst (λ (z : CommandStart). At' m z.upto Met c) (sym is) (work_later m (noted_of m w n).upto (MetTrimAbove m w n) Met (met_on w v n _ sent (here ∙ is)) c.view c.work (st.clients n).at)
          by (Anew idle is) = subst (WorkAt m s.upto Met c.view) (sym idle) tt

      numbers_before : (o : Out) → Has (reserved m c) o → s.next ≤ o.rid
      numbers_before = by noted
        where
          by : Noted m w n s (IsCommanded m w n t i) → (o : Out) → Has (reserved m c) o → s.next ≤ o.rid
          by (Before is never) o h = subst (λ (z : CommandStart). z.next ≤ o.rid) (sym is) ((st.clients n).numbers o h)
          by (Anew idle is) o h = absurd (subst (λ (z : Option (Work m)). Has (work_reserved m c.stand z) o) idle h)

      up_before : s.next ≤ c.next
      up_before = by noted
        where
          by : Noted m w n s (IsCommanded m w n t i) → s.next ≤ c.next
          by (Before is never) = subst (λ (z : CommandStart). z.next ≤ c.next) (sym is) (st.clients n).up
          by (Anew idle is) = let y = ap (λ (z : CommandStart). z.next) is in omega (arith, y)

      given_now : IsCommanded m w n t i → c.work ≡ None → AsGiven m s.upto Met c.view
      given_now g free = by noted
        where
          by : Noted m w n s (IsCommanded m w n t i) → AsGiven m s.upto Met c.view
          by (Before is never) = absurd (never g free)
          by (Anew idle is) = inl (sym (ap (λ (z : CommandStart). z.upto) is))

      stays : Stays m s.upto (upto m c) Met (upto m c)
      stays = inl (omega arith)

      -- what a unit answers to a walk in hand is answered to this command
      hears : (p : Packet) → Has w.packets p → p.to ≡ client_id n → WalkHears m s.upto (upto m c) Met c p.from p.rid (reply p.msg)
      hears p sent_before to work task has hand awaited b is less =
          let a = asked (task_awaited m c.stand task) p.from p.rid awaited in
          record {
            rid = p.rid;
            below = b;
            gone = record { packet = p; sent = contained v.packets p (subst (λ (qs : List Packet). Has qs p) (sym sent) (has_left w.packets _ p sent_before)); to = to; number = refl; says = is_gone p.msg b is };
            now = subst (λ (z : CommandStart). z.next ≤ p.rid) (sym here) (subst (λ (r : ℕ). s.next ≤ r) a.number (numbers_before a.of
                (subst (λ (z : Option (Work m)). Has (work_reserved m c.stand z) a.of) (sym has) (subst (λ (d : Hand m). Has (hand_reserved m c.stand d) a.of) (sym hand) a.has))));
            above = subst (λ (z : CommandStart). z.upto < b) (sym here) less;
          }

      turn_ok : (u : ClientTurn m) → (y : ClientInput m (config m w) n u) → (IsCommanded m w n u y → c.work ≡ None → AsGiven m s.upto Met c.view) → TurnOk s.upto (upto m c) Met u.now u.notes
      unfolding client_command client_deliver client_tick
      turn_ok u (Commanded x) g = command_ok s.upto (upto m c) Met c x (refusal m c x) (not_busy m c x) (g tt) at_before stays
      turn_ok u (Hears' p comes) g = let f = feed_fine m s.upto (upto m c) Met c p.from p.rid (reply p.msg) (hears p comes.sent comes.to_node) at_before stays in (f.0, inl f.1)
      turn_ok u Ticks' g = let f = tick_fine m s.upto (upto m c) Met c c.work refl at_before stays in (f.0, inl f.1)

      draws : (u : ClientTurn m) → ClientInput m (config m w) n u → TurnDraws' m c u
      draws u (Commanded x) = command_draws m c x
      draws u (Hears' p comes) = deliver_draws m c p.from p.rid p.msg
      draws u Ticks' = tick_draws m c

      kept_now : client m v n ≡ t.now → Kept v n
      kept_now is = record {
        at = subst (λ (z : CommandStart). At' m z.upto Met (client m v n)) (sym here) (subst (At' m s.upto Met) (sym is) (turn_ok t i given_now).0);
        numbers = λ o h. subst (λ (z : CommandStart). z.next ≤ o.rid) (sym here) (number o (d.is.either o (has_right t.sends (reserved m t.now) o (subst (λ (z : Client m). Has (reserved m z) o) is h))));
        up = subst (λ (z : CommandStart). z.next ≤ (client m v n).next) (sym here) (subst (λ (z : Client m). s.next ≤ z.next) (sym is) (let a = d.is.up in let b = up_before in omega (arith, a, b)));
      }
        where
          d : TurnDraws' m c t
          d = draws t i

          number : (o : Out) → Has (reserved m c) o ⊎ Has d.is.new o → s.next ≤ o.rid
          number o (inl h) = numbers_before o h
          number o (inr h) = let a = d.is.is_new.from o h in let b = up_before in omega (arith, a, b)

      falls_now : client m v n ≡ t.now → v.told ≡ w.told ++ map (told_of m w n s) t.notes → upto m (client m v n) < upto m c → Answers m w e n (IsHosted m) ⊎ Met
      falls_now is grown less = by (turn_ok t i given_now).1
        where
          top : upto m (client m v n) ≡ upto m t.now
          top = ap (λ (z : Client m). upto m z) is

          by : Stays m s.upto (upto m c) Met (upto m t.now) ⊎ HostNote t.notes → Answers m w e n (IsHosted m) ⊎ Met
          by (inl (inl le)) = absurd (omega (arith, le, less, top))
          by (inl (inr y)) = inr y
          by (inr y) = inl (record {
            told = told_of m w n s y.note;
            says = record { replies = map (told_of m w n s) t.notes; are = grown; here = contained _ _ (mapped t.notes y.note y.has) };
            client = refl;
            holds = (y.oid, y.says);
          })
            where
              mapped : (ns : List (NoteOf m)) (x : NoteOf m) → Has ns x → Has (map (told_of m w n s) ns) (told_of m w n s x)
              mapped [] x h = absurd h
              mapped (y ∷ ns) x (inl f) = inl (ap (told_of m w n s) f)
              mapped (y ∷ ns) x (inr h) = inr (mapped ns x h)

    no_fall : {X : Type 0} (k : ℕ) → client m v k ≡ client m w k → upto m (client m v k) < upto m (client m w k) → X
    no_fall k is less = let y = ap (λ (z : Client m). upto m z) is in absurd (omega (arith, y, less))

    pub stepped : Acts m w e v → State v × ViewsFallAtTrims m w e
    stepped (Others ps p o t c n even) = (record { even = even; clients = λ k. kept_other w v st k ps p (c k) (n k) }, λ k less. no_fall k (c k) less)
    stepped (Acts' n t s i noted p x turns even) = (record { even = even; clients = λ k. kept k (turns k) }, λ k less. falls k (turns k) less)
      where
        kept : (k : ℕ) → Turns m w v n t s k → Kept v k
        kept k (inl y) = subst (Kept v) (sym y.0) (kept_now n t s i noted p (subst (λ (j : ℕ). noted_of m v j ≡ s) y.0 y.2) (subst (λ (j : ℕ). client m v j ≡ t.now) y.0 y.1))
        kept k (inr y) = kept_other w v st k (map (packet_of m (client_id n)) t.sends) p y.0 y.1

        falls : (k : ℕ) → Turns m w v n t s k → upto m (client m v k) < upto m (client m w k) → Answers m w e k (IsHosted m) ⊎ MetTrimAbove m v k
        falls k (inl y) less = subst (λ (j : ℕ). Answers m w e j (IsHosted m) ⊎ MetTrimAbove m v j) (sym y.0)
            (falls_now n t s i noted p (subst (λ (j : ℕ). noted_of m v j ≡ s) y.0 y.2) (subst (λ (j : ℕ). client m v j ≡ t.now) y.0 y.1) x (subst (λ (j : ℕ). upto m (client m v j) < upto m (client m w j)) y.0 less))
        falls k (inr y) less = no_fall k y.0 less

  -- Along a run.

  new_at : (h : Header) (k j : ℕ) (Met : Type 0) → At' m 0 Met (new_client m h j)
  unfolding new_client
  new_at h k j met = tt

  new_numbers : (h : Header) (j : ℕ) (o : Out) → Has (reserved m (new_client m h j)) o → 1 ≤ o.rid
  unfolding new_client
  new_numbers h j o i = absurd i

  new_up : (h : Header) (j : ℕ) → 1 ≤ (new_client m h j).next
  unfolding new_client
  new_up h j = omega arith

  start_kept : (h : Header) (k : ℕ) → Kept (start m h) k
  unfolding start
  start_kept h k = record {
    at = at_replicate h.clients first k first (λ (z : CommandStart). At' m z.upto (MetTrimAbove m (start m h) k) (client m (start m h) k)) at at;
    numbers = at_replicate h.clients first k first (λ (z : CommandStart). (o : Out) → Has (reserved m (client m (start m h) k)) o → z.next ≤ o.rid) numbers_at numbers_at;
    up = at_replicate h.clients first k first (λ (z : CommandStart). z.next ≤ (client m (start m h) k).next) up up;
  }
    where
      first : CommandStart
      first = record { next = 1; epoch = 1; upto = 0 }

      at : At' m 0 (MetTrimAbove m (start m h) k) (client m (start m h) k)
      at = at_map (new_client m h) (numbers h.clients 0) k (new_client m h k) (λ (c : Client m). At' m 0 (MetTrimAbove m (start m h) k) c) (λ j. new_at h k j _) (new_at h k k _)

      numbers_at : (o : Out) → Has (reserved m (client m (start m h) k)) o → 1 ≤ o.rid
      numbers_at = at_map (new_client m h) (numbers h.clients 0) k (new_client m h k) (λ (c : Client m). (o : Out) → Has (reserved m c) o → 1 ≤ o.rid) (λ j. new_numbers h j) (new_numbers h k)

      up : 1 ≤ (client m (start m h) k).next
      up = at_map (new_client m h) (numbers h.clients 0) k (new_client m h k) (λ (c : Client m). 1 ≤ c.next) (λ j. new_up h j) (new_up h k)

  map_long : {X Y : Type 0} (f : X → Y) (xs : List X) → length (map f xs) ≡ length xs
  map_long f [] = refl
  map_long f (x ∷ xs) = ap suc (map_long f xs)

  many : {X : Type 0} (n : ℕ) (x : X) → length (replicate n x) ≡ n
  many zero x = refl
  many (suc n) x = ap suc (many n x)

  start_even : (h : Header) → IsEven m (start m h)
  unfolding start
  start_even h = many h.clients (record { next = 1; epoch = 1; upto = 0 }) ∙ sym (map_long (new_client m h) (numbers h.clients 0) ∙ numbers_long h.clients 0)

  pub start_state : (h : Header) → State (start m h)
  start_state h = record { even = start_even h; clients = λ k. start_kept h k }

  next_state : (w : World m) → State w → State (next_event m w)
  next_state w st = record { even = st.even; clients = λ k. kept_other w (next_event m w) st k [] (sym (nil_right w.packets)) refl refl }

  pub state_run : (ms : Moves m) (w : World m) → State w → State (run m ms w)
  unfolding run
  state_run [] w st = st
  state_run (Next ∷ ms) w st = state_run ms (next_event m w) (next_state w st)
  state_run (Takes e ∷ ms) w st = state_run ms (happens m w e) (stepped w e st (acts m w st.even e)).0

  pub views_fall_at_trims : EachStep m (ViewsFallAtTrims m)
  views_fall_at_trims h ms w e r lawful less =
      let st = subst State (sym r.goes.is) (state_run ms (start m h) (start_state h)) in
      (stepped w e st (acts m w st.even e)).1
