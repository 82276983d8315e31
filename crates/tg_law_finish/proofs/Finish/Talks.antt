-- A client that waits with one request at a time, as one that waits with several may.
use Rattle.std.proofs.Common.{◌≡◌, ◌⊎◌, ℕ, ◌+◌, ◌≤◌, List, [], ◌∷◌, ◌++◌, true, false, refl, ◌∙◌, sym, subst, inl, inr, Some}
use Rattle.std.specs.Prelude.{⊤}
use Rattle.tg_base.specs.Layouts.{Layout}
use Rattle.tg_base.specs.Clusters.{Header}
use Rattle.tg_base.specs.declared.ids.NodeId.{NodeId}
use Rattle.tg_base.specs.declared.msg.Msg.{Msg}
use Rattle.tg_base.specs.declared.packet.Out.{Out}
use Rattle.tg_kind.specs.Meaning.{Meaning}
use Rattle.tg_base.specs.Orders.{node_eq}
use Rattle.tg_protocol.specs.Words.{client_id}
use Rattle.tg_protocol.specs.Clients.{Client, Work}
use Rattle.tg_protocol.specs.ClientSteps.{client_deliver, called, ClientTurn, hand_again_asks}
use Rattle.tg_protocol.specs.Worlds.{packet_of}
use Rattle.tg_law_finish.proofs.Finish.Nets.{Net, net_after, sent_then, on_in, client_of}
use Rattle.tg_law_finish.proofs.Finish.Others.{Ready, Keeps, Calm}
use Rattle.tg_law_finish.proofs.Finish.Lines.{Item, Ask, Tell, asks, answer_packet, Busied, Again, TalkOf, Talk, Told, Goes}

pub no_asks : (x : NodeId) (rid : ℕ) (y : Msg) (os : List Out) → Tell x rid y ∷ [] ≡ asks os → ⊥
no_asks x rid y [] e = absurd cc
no_asks x rid y (o ∷ os) e = absurd cc

one_ask : (o : Out) (os : List Out) → Ask o ∷ [] ≡ asks os → o ∷ [] ≡ os
one_ask o [] e = absurd cc
one_ask o (x ∷ []) e = cc
one_ask o (x ∷ y ∷ os) e = absurd cc

module _ (m : Meaning) (h : Header) (stopped : List NodeId) (k : ℕ) (p : Layout) where
  -- what a client is that waits for one request
  pub record Facts (c : Client m) (o : Out) : Type 0 where
    pub work : Work m
    pub waits : c.work ≡ Some work
    pub again : hand_again_asks m c.stand work.hand ≡ o ∷ []
    pub calm : Calm m h stopped k p c

  -- A machine: a client with one outstanding request, and how many it may send after that; and one that is told an answer.
  module _ (Stage : Net m → Client m → Out → ℕ → Type 0) (Hears : Net m → Client m → NodeId → ℕ → Msg → ℕ → Type 0) where
    pub record Asked (s : Net m) (o : Out) (n : ℕ) : Type 0 where
      pub running : on_in m stopped s o.to ≡ true
      pub from : NodeId
      pub rid : ℕ
      pub says : Msg
      pub sent : sent_then m h s (packet_of m (client_id k) o) o.to.role ≡ answer_packet m h stopped k p from rid says ∷ []
      pub no_client : node_eq from (client_id k) ≡ false
      pub ready : Ready m h stopped k p (net_after m h s (packet_of m (client_id k) o) o.to.role)
      pub client : client_of m h (net_after m h s (packet_of m (client_id k) o) o.to.role) k ≡ client_of m h s k
      pub hears : Hears (net_after m h s (packet_of m (client_id k) o) o.to.role) (client_of m h s k) from rid says n

    pub record More (s : Net m) (t : ClientTurn m) (n : ℕ) : Type 0 where
      pub o : Out
      pub left : ℕ
      pub sends : t.sends ≡ o ∷ []
      pub stage : Stage s t.now o left
      pub less : left + 1 ≤ n

    -- Of what its node is asked it may be known that it is fair.
    pub record MachineOf (Fair : Net m → Msg → Type 0) (Exit : Net m → Client m → ClientTurn m → ℕ → Type 0) : Type 0 where
      pub facts : (s : Net m) (c : Client m) (o : Out) (n : ℕ) → Stage s c o n → Facts c o
      pub hears_calm : (s : Net m) (c : Client m) (x : NodeId) (rid : ℕ) (y : Msg) (n : ℕ) → Hears s c x rid y n → Busied m h stopped k p c
      pub stage_stays : (s t : Net m) (c : Client m) (o : Out) (n : ℕ) → Keeps m h stopped k p s t → Stage s c o n → Stage t c o n
      pub hears_stays : (s t : Net m) (c : Client m) (x : NodeId) (rid : ℕ) (y : Msg) (n : ℕ) → Keeps m h stopped k p s t → Hears s c x rid y n → Hears t c x rid y n
      pub stage_called : (s : Net m) (c : Client m) (o : Out) (n : ℕ) → Stage s c o n → Stage s (called m c) o n
      pub hears_called : (s : Net m) (c : Client m) (x : NodeId) (rid : ℕ) (y : Msg) (n : ℕ) → Hears s c x rid y n → Hears s (called m c) x rid y n
      pub stage_ticked : (s : Net m) (c : Client m) (o : Out) (n : ℕ) → Stage s c o n → Stage s (called m (record c { next = c.next + c.layouts })) o n
      pub asked : (s : Net m) (o : Out) (n : ℕ) → Fair s o.msg → Ready m h stopped k p s → Stage s (client_of m h s k) o n → Asked s o n
      pub answered : (s : Net m) (x : NodeId) (rid : ℕ) (y : Msg) (n : ℕ) → Ready m h stopped k p s → Hears s (client_of m h s k) x rid y n
          → Exit s (client_of m h s k) (client_deliver m (client_of m h s k) x rid y) n ⊎ More s (client_deliver m (client_of m h s k) x rid y) n

    -- whatever it is asked
    abbrev pub Machine : (Net m → Client m → ClientTurn m → ℕ → Type 0) → Type 0
    Machine Exit = MachineOf (λ s x. ⊤) Exit

    -- The request or its answer is on its way.
    pub data One (s : Net m) (c : Client m) : List Item → ℕ → Type 0 where
      Request : (o : Out) (n : ℕ) → Stage s c o n → One s c (Ask o ∷ []) n
      Answer : (x : NodeId) (rid : ℕ) (y : Msg) (n : ℕ) → Hears s c x rid y n → One s c (Tell x rid y ∷ []) n

    module _ (Fair : Net m → Msg → Type 0) (Exit : Net m → Client m → ClientTurn m → ℕ → Type 0) (machine : MachineOf Fair Exit) where
      one_facts : (s : Net m) (c : Client m) (is : List Item) (n : ℕ) → One s c is n → Busied m h stopped k p c
      one_facts s c is n (Request o l x) = let f = machine.facts s c o l x in record { work = f.work; waits = f.waits; calm = f.calm }
      one_facts s c is n (Answer y rid z l x) = machine.hears_calm s c y rid z l x

      one_some : (s : Net m) (c : Client m) (is : List Item) (n : ℕ) → One s c is n → is ≡ [] → ⊥
      one_some s c is n (Request o l x) e = absurd cc
      one_some s c is n (Answer y rid z l x) e = absurd cc

      one_stays : (s t : Net m) (c : Client m) (is : List Item) (n : ℕ) → Keeps m h stopped k p s t → One s c is n → One t c is n
      one_stays s t c is n keep (Request o l x) = Request o l (machine.stage_stays s t c o l keep x)
      one_stays s t c is n keep (Answer y rid z l x) = Answer y rid z l (machine.hears_stays s t c y rid z l keep x)

      one_called : (s : Net m) (c : Client m) (is : List Item) (n : ℕ) → One s c is n → One s (called m c) is n
      one_called s c is n (Request o l x) = Request o l (machine.stage_called s c o l x)
      one_called s c is n (Answer y rid z l x) = Answer y rid z l (machine.hears_called s c y rid z l x)

      one_again : (s : Net m) (c : Client m) (is : List Item) (os : List Out) (n : ℕ) → One s c is n → is ≡ asks os → Again m h stopped k p c os
      one_again s c is os n (Request o l x) e = let f = machine.facts s c o l x in record { work = f.work; waits = f.waits; again = f.again ∙ one_ask o os e }
      one_again s c is os n (Answer y rid z l x) e = absurd (no_asks y rid z os e)

      one_ticked : (s : Net m) (c : Client m) (is : List Item) (os : List Out) (n : ℕ) → One s c is n → is ≡ asks os → One s (called m (record c { next = c.next + c.layouts })) is n
      one_ticked s c is os n (Request o l x) e = Request o l (machine.stage_ticked s c o l x)
      one_ticked s c is os n (Answer y rid z l x) e = absurd (no_asks y rid z os e)

      one_asked : (s : Net m) (o : Out) (is js : List Item) (n : ℕ) → Fair s o.msg → Ready m h stopped k p s → One s (client_of m h s k) js n → js ≡ Ask o ∷ is → Told m h stopped k p One s o is n
      one_asked s o is js n fair ready (Request q l x) e =
          subst (λ (y : Out). Told m h stopped k p One s y is l) (same q o is e) (subst (λ (ys : List Item). Told m h stopped k p One s q ys l) (none q o is e)
          (let a = machine.asked s q l (subst (λ (y : Out). Fair s y.msg) (sym (same q o is e)) fair) ready x in
          record { running = a.running; from = a.from; rid = a.rid; says = a.says; sent = a.sent; no_client = a.no_client; ready = a.ready; client = a.client; stage = Answer a.from a.rid a.says l a.hears }))
        where
          same : (q o : Out) (is : List Item) → Ask q ∷ [] ≡ Ask o ∷ is → q ≡ o
          same q o is e = cc

          none : (q o : Out) (is : List Item) → Ask q ∷ [] ≡ Ask o ∷ is → [] ≡ is
          none q o is e = cc
      one_asked s o is js n fair ready (Answer y rid z l x) e = absurd cc

      one_answered : (s : Net m) (x : NodeId) (rid : ℕ) (y : Msg) (is js : List Item) (n : ℕ) → Ready m h stopped k p s → One s (client_of m h s k) js n → js ≡ Tell x rid y ∷ is
          → (Exit s (client_of m h s k) (client_deliver m (client_of m h s k) x rid y) n × (is ≡ [])) ⊎ Goes m h stopped k p One s (client_deliver m (client_of m h s k) x rid y) is n
      one_answered s x rid y is js n ready (Request q l z) e = absurd cc
      one_answered s x rid y is js n ready (Answer from r z l heard) e =
          by (machine.answered s x rid y l ready (subst (λ (i : Item). Told' i l) (same from r z x rid y is e) heard))
        where
          Told' : Item → ℕ → Type 0
          Told' (Ask o) n = ⊥
          Told' (Tell x rid y) n = Hears s (client_of m h s k) x rid y n

          same : (from : NodeId) (r : ℕ) (z : Msg) (x : NodeId) (rid : ℕ) (y : Msg) (is : List Item) → Tell from r z ∷ [] ≡ Tell x rid y ∷ is → Tell from r z ≡ Tell x rid y
          same from r z x rid y is e = cc

          none : (from : NodeId) (r : ℕ) (z : Msg) (x : NodeId) (rid : ℕ) (y : Msg) (is : List Item) → Tell from r z ∷ [] ≡ Tell x rid y ∷ is → is ≡ []
          none from r z x rid y is e = cc

          by : Exit s (client_of m h s k) (client_deliver m (client_of m h s k) x rid y) l ⊎ More s (client_deliver m (client_of m h s k) x rid y) l
              → (Exit s (client_of m h s k) (client_deliver m (client_of m h s k) x rid y) l × (is ≡ [])) ⊎ Goes m h stopped k p One s (client_deliver m (client_of m h s k) x rid y) is l
          by (inl over) = inl (over, none from r z x rid y is e)
          by (inr more) = inr (record { os = more.o ∷ []; left = more.left; sends = more.sends; stage = subst (λ (ys : List Item). One s (client_deliver m (client_of m h s k) x rid y).now (ys ++ asks (more.o ∷ [])) more.left) (sym (none from r z x rid y is e)) (Request more.o more.left more.stage); less = more.less })

      pub one_talk_of : TalkOf m h stopped k p One Fair Exit
      one_talk_of = record {
        facts = one_facts;
        some = one_some;
        stays = one_stays;
        calls = one_called;
        again = one_again;
        ticked = one_ticked;
        asked = λ s o is n fair ready x. one_asked s o is (Ask o ∷ is) n fair ready x refl;
        answered = λ s x rid y is n ready stage. one_answered s x rid y is (Tell x rid y ∷ is) n ready stage refl;
      }

    pub one_talk : (Exit : Net m → Client m → ClientTurn m → ℕ → Type 0) → Machine Exit → Talk m h stopped k p One Exit
    one_talk Exit machine = one_talk_of (λ s x. ⊤) Exit machine
