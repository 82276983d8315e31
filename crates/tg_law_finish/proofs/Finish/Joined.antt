-- Pieces of work one after the other: where one comes to its exit another begins, with what is left.
use Rattle.std.proofs.Common.{◌≡◌, ◌⊎◌, ℕ, ◌+◌, ◌≤◌, List, [], ◌∷◌, sym, subst, inl, inr, arith}
use Rattle.std.specs.Prelude.{⊤}
use Rattle.tg_base.specs.Layouts.{Layout}
use Rattle.tg_base.specs.Clusters.{Header}
use Rattle.tg_base.specs.declared.ids.NodeId.{NodeId}
use Rattle.tg_base.specs.declared.msg.Msg.{Msg}
use Rattle.tg_base.specs.declared.packet.Out.{Out}
use Rattle.tg_kind.specs.Meaning.{Meaning}
use Rattle.tg_protocol.specs.Clients.{Client}
use Rattle.tg_protocol.specs.ClientSteps.{client_deliver, called, ClientTurn}
use Rattle.tg_law_finish.proofs.Finish.Nets.{Net, client_of}
use Rattle.tg_law_finish.proofs.Finish.Others.{Ready, Keeps}
use Rattle.tg_law_finish.proofs.Finish.Lines.{Item, Ask, Tell, asks, Busied, Again, TalkOf, Talk, Told, Goes}

module _ (m : Meaning) (h : Header) (stopped : List NodeId) (k : ℕ) (p : Layout) where
  abbrev pub StageOf : Type 1
  StageOf = Net m → Client m → List Item → ℕ → Type 0

  abbrev pub ExitOf : Type 1
  ExitOf = Net m → Client m → ClientTurn m → ℕ → Type 0

  -- With room for what comes after it.
  module _ (A : StageOf) (Exit : ExitOf) (extra : ℕ) where
    pub record Roomy (s : Net m) (c : Client m) (is : List Item) (n : ℕ) : Type 0 where
      pub left : ℕ
      pub stage : A s c is left
      pub few : left + extra ≤ n

    pub record RoomyExit (s : Net m) (c : Client m) (t : ClientTurn m) (n : ℕ) : Type 0 where
      pub left : ℕ
      pub exit : Exit s c t left
      pub few : left + extra ≤ n

    module _ (talk : Talk m h stopped k p A Exit) where
      roomy_told : (s : Net m) (o : Out) (is : List Item) (n : ℕ) → Ready m h stopped k p s → Roomy s (client_of m h s k) (Ask o ∷ is) n → Told m h stopped k p Roomy s o is n
      roomy_told s o is n ready x =
          let a = talk.asked s o is x.left tt ready x.stage in
          record { running = a.running; from = a.from; rid = a.rid; says = a.says; sent = a.sent; no_client = a.no_client; ready = a.ready; client = a.client; stage = record { left = x.left; stage = a.stage; few = x.few } }

      roomy_answered : (s : Net m) (from : NodeId) (rid : ℕ) (y : Msg) (is : List Item) (n left : ℕ) → left + extra ≤ n
          → (Exit s (client_of m h s k) (client_deliver m (client_of m h s k) from rid y) left × (is ≡ [])) ⊎ Goes m h stopped k p A s (client_deliver m (client_of m h s k) from rid y) is left
          → (RoomyExit s (client_of m h s k) (client_deliver m (client_of m h s k) from rid y) n × (is ≡ [])) ⊎ Goes m h stopped k p Roomy s (client_deliver m (client_of m h s k) from rid y) is n
      roomy_answered s from rid y is n left few (inl x) = inl (record { left = left; exit = x.0; few = few }, x.1)
      roomy_answered s from rid y is n left few (inr x) = let less = x.less in inr (record { os = x.os; left = x.left + extra; sends = x.sends; stage = record { left = x.left; stage = x.stage; few = omega arith }; less = omega (arith, less, few) })

      pub roomy : Talk m h stopped k p Roomy RoomyExit
      roomy = record {
        facts = λ s c is n x. talk.facts s c is x.left x.stage;
        some = λ s c is n x. talk.some s c is x.left x.stage;
        stays = λ s t c is n keep x. record { left = x.left; stage = talk.stays s t c is x.left keep x.stage; few = x.few };
        calls = λ s c is n x. record { left = x.left; stage = talk.calls s c is x.left x.stage; few = x.few };
        again = λ s c is os n x. talk.again s c is os x.left x.stage;
        ticked = λ s c is os n x e. record { left = x.left; stage = talk.ticked s c is os x.left x.stage e; few = x.few };
        asked = λ s o is n fair ready x. roomy_told s o is n ready x;
        answered = λ s from rid y is n ready x. roomy_answered s from rid y is n x.left x.few (talk.answered s from rid y is x.left ready x.stage);
      }

  -- One, and then another.
  module _ (A B : StageOf) (ExitA ExitB : ExitOf) where
    abbrev pub Either : StageOf
    Either s c is n = A s c is n ⊎ B s c is n

    -- where the first comes to its exit, the second has begun, or is over too
    abbrev pub Begins : Type 0
    Begins = (s : Net m) (c : Client m) (t : ClientTurn m) (n : ℕ) → Ready m h stopped k p s → ExitA s c t n → ExitB s c t n ⊎ Goes m h stopped k p B s t [] n

    module _ (Fair : Net m → Msg → Type 0) (first : TalkOf m h stopped k p A Fair ExitA) (second : TalkOf m h stopped k p B Fair ExitB) (begins : Begins) where
      either_facts : (s : Net m) (c : Client m) (is : List Item) (n : ℕ) → Either s c is n → Busied m h stopped k p c
      either_facts s c is n (inl x) = first.facts s c is n x
      either_facts s c is n (inr x) = second.facts s c is n x

      either_some : (s : Net m) (c : Client m) (is : List Item) (n : ℕ) → Either s c is n → is ≡ [] → ⊥
      either_some s c is n (inl x) e = first.some s c is n x e
      either_some s c is n (inr x) e = second.some s c is n x e

      either_stays : (s t : Net m) (c : Client m) (is : List Item) (n : ℕ) → Keeps m h stopped k p s t → Either s c is n → Either t c is n
      either_stays s t c is n keep (inl x) = inl (first.stays s t c is n keep x)
      either_stays s t c is n keep (inr x) = inr (second.stays s t c is n keep x)

      either_calls : (s : Net m) (c : Client m) (is : List Item) (n : ℕ) → Either s c is n → Either s (called m c) is n
      either_calls s c is n (inl x) = inl (first.calls s c is n x)
      either_calls s c is n (inr x) = inr (second.calls s c is n x)

      either_again : (s : Net m) (c : Client m) (is : List Item) (os : List Out) (n : ℕ) → Either s c is n → is ≡ asks os → Again m h stopped k p c os
      either_again s c is os n (inl x) e = first.again s c is os n x e
      either_again s c is os n (inr x) e = second.again s c is os n x e

      either_ticked : (s : Net m) (c : Client m) (is : List Item) (os : List Out) (n : ℕ) → Either s c is n → is ≡ asks os → Either s (called m (record c { next = c.next + c.layouts })) is n
      either_ticked s c is os n (inl x) e = inl (first.ticked s c is os n x e)
      either_ticked s c is os n (inr x) e = inr (second.ticked s c is os n x e)

      either_asked : (s : Net m) (o : Out) (is : List Item) (n : ℕ) → Fair s o.msg → Ready m h stopped k p s → Either s (client_of m h s k) (Ask o ∷ is) n → Told m h stopped k p Either s o is n
      either_asked s o is n fair ready (inl x) =
          let a = first.asked s o is n fair ready x in
          record { running = a.running; from = a.from; rid = a.rid; says = a.says; sent = a.sent; no_client = a.no_client; ready = a.ready; client = a.client; stage = inl a.stage }
      either_asked s o is n fair ready (inr x) =
          let a = second.asked s o is n fair ready x in
          record { running = a.running; from = a.from; rid = a.rid; says = a.says; sent = a.sent; no_client = a.no_client; ready = a.ready; client = a.client; stage = inr a.stage }

      begun : (s : Net m) (c : Client m) (t : ClientTurn m) (is : List Item) (n : ℕ) → is ≡ [] → ExitB s c t n ⊎ Goes m h stopped k p B s t [] n → (ExitB s c t n × (is ≡ [])) ⊎ Goes m h stopped k p Either s t is n
      begun s c t is n e (inl x) = inl (x, e)
      begun s c t is n e (inr x) = subst (λ (js : List Item). (ExitB s c t n × (js ≡ [])) ⊎ Goes m h stopped k p Either s t js n) (sym e) (inr (record { os = x.os; left = x.left; sends = x.sends; stage = inr x.stage; less = x.less }))

      first_answered : (s : Net m) (c : Client m) (t : ClientTurn m) (is : List Item) (n : ℕ) → Ready m h stopped k p s → (ExitA s c t n × (is ≡ [])) ⊎ Goes m h stopped k p A s t is n → (ExitB s c t n × (is ≡ [])) ⊎ Goes m h stopped k p Either s t is n
      first_answered s c t is n ready (inl x) = begun s c t is n x.1 (begins s c t n ready x.0)
      first_answered s c t is n ready (inr x) = inr (record { os = x.os; left = x.left; sends = x.sends; stage = inl x.stage; less = x.less })

      second_answered : (s : Net m) (c : Client m) (t : ClientTurn m) (is : List Item) (n : ℕ) → (ExitB s c t n × (is ≡ [])) ⊎ Goes m h stopped k p B s t is n → (ExitB s c t n × (is ≡ [])) ⊎ Goes m h stopped k p Either s t is n
      second_answered s c t is n (inl x) = inl x
      second_answered s c t is n (inr x) = inr (record { os = x.os; left = x.left; sends = x.sends; stage = inr x.stage; less = x.less })

      either_answered : (s : Net m) (from : NodeId) (rid : ℕ) (y : Msg) (is : List Item) (n : ℕ) → Ready m h stopped k p s → Either s (client_of m h s k) (Tell from rid y ∷ is) n
          → (ExitB s (client_of m h s k) (client_deliver m (client_of m h s k) from rid y) n × (is ≡ [])) ⊎ Goes m h stopped k p Either s (client_deliver m (client_of m h s k) from rid y) is n
      either_answered s from rid y is n ready (inl x) = first_answered s _ _ is n ready (first.answered s from rid y is n ready x)
      either_answered s from rid y is n ready (inr x) = second_answered s _ _ is n (second.answered s from rid y is n ready x)

      pub joined_of : TalkOf m h stopped k p Either Fair ExitB
      joined_of = record { facts = either_facts; some = either_some; stays = either_stays; calls = either_calls; again = either_again; ticked = either_ticked; asked = either_asked; answered = either_answered }

    pub joined : Talk m h stopped k p A ExitA → Talk m h stopped k p B ExitB → Begins → Talk m h stopped k p Either ExitB
    joined first second begins = joined_of (λ s x. ⊤) first second begins

  -- where more is known of what is asked
  pub any_fair : (A : StageOf) (Exit : ExitOf) (Fair : Net m → Msg → Type 0) → Talk m h stopped k p A Exit → TalkOf m h stopped k p A Fair Exit
  any_fair A Exit Fair talk = record {
    facts = talk.facts;
    some = talk.some;
    stays = talk.stays;
    calls = talk.calls;
    again = talk.again;
    ticked = talk.ticked;
    asked = λ s o is n fair ready x. talk.asked s o is n tt ready x;
    answered = talk.answered;
  }

  -- Another exit.
  module _ (A : StageOf) (ExitA ExitB : ExitOf) (leads : (s : Net m) (c : Client m) (t : ClientTurn m) (n : ℕ) → ExitA s c t n → ExitB s c t n) (talk : Talk m h stopped k p A ExitA) where
    led : (s : Net m) (c : Client m) (t : ClientTurn m) (is : List Item) (n : ℕ) → (ExitA s c t n × (is ≡ [])) ⊎ Goes m h stopped k p A s t is n → (ExitB s c t n × (is ≡ [])) ⊎ Goes m h stopped k p A s t is n
    led s c t is n (inl x) = inl (leads s c t n x.0, x.1)
    led s c t is n (inr x) = inr x

    pub leading : Talk m h stopped k p A ExitB
    leading = record {
      facts = talk.facts;
      some = talk.some;
      stays = talk.stays;
      calls = talk.calls;
      again = talk.again;
      ticked = talk.ticked;
      asked = talk.asked;
      answered = λ s from rid y is n ready x. led s _ _ is n (talk.answered s from rid y is n ready x);
    }
