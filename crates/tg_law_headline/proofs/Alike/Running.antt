-- Along a run: what each client keeps since its command began, turn by turn, and what is said of all that is told.
use Rattle.std.proofs.Common.{◌≡◌, ◌⊎◌, ℕ, List, [], ◌∷◌, ◌++◌, map, refl, sym, ◌∙◌, subst, inl, inr, None}
use Rattle.tg_base.specs.Clusters.{Header}
use Rattle.tg_kind.specs.Meaning.{Meaning}
use Rattle.tg_model.specs.Kinds.{EventOf, NoteOf}
use Rattle.tg_protocol.specs.Words.{numbers}
use Rattle.tg_protocol.specs.Clients.{Client, new_client, upto}
use Rattle.tg_protocol.specs.ClientSteps.{ClientTurn}
use Rattle.tg_protocol.specs.Worlds.{CommandStart, World, Told, start, client, noted_of, happens}
use Rattle.tg_protocol.specs.Runs.{Move, Moves, Next, Takes, run}
use Rattle.tg_law_layouts.specs.Moves.After.{after}
use Rattle.tg_law_layouts.specs.Moves.Configs.{config}
use Rattle.tg_law_layouts.proofs.Moves.Lists.{at_map, at_replicate}
use Rattle.tg_law_layouts.proofs.Moves.Members.{Has, has_either, has_map}
use Rattle.tg_law_layouts.proofs.Moves.Moves.{ClientInput}
use Rattle.tg_law_replies.proofs.Books.Worlds.{nil_right, regroup}
use Rattle.tg_law_walks.proofs.Drafts.Written.{then_next, then_takes}
use Rattle.tg_law_headline.proofs.Alike.Speaks.{Noted, Before, Anew, From, Speaks, Silent, Speaks', Turns, told_of, speaks}

-- What is said of each reply is said of all.
module _ (m : Meaning) (Says : Told m → Type 0) where
  abbrev pub AllSay : List (Told m) → Type 0
  AllSay ts = (t : Told m) → Has ts t → Says t

  pub none_say : AllSay []
  none_say t i = absurd i

  pub both_say : (ts us : List (Told m)) → AllSay ts → AllSay us → AllSay (ts ++ us)
  both_say ts us a b t i = by (has_either ts us t i)
    where
      by : Has ts t ⊎ Has us t → Says t
      by (inl j) = a t j
      by (inr j) = b t j

  pub notes_say : (mark : NoteOf m → Told m) (ns : List (NoteOf m)) → ((y : NoteOf m) → Has ns y → Says (mark y)) → AllSay (map mark ns)
  notes_say mark ns f t i = let z = has_map mark ns t i in subst Says (sym z.is) (f z.of z.has)

-- how a client stands whose command begins now
abbrev pub starts_at : (m : Meaning) → Client m → CommandStart
starts_at m c = record { next = c.next; epoch = c.stand.epoch; upto = upto m c }

module _ (m : Meaning) (h : Header) (zs : Moves m) (Kept : CommandStart → ℕ → Client m → Type 0) (Says : List (Told m) → Type 0)
    (none : Says []) (both : (ts us : List (Told m)) → Says ts → Says us → Says (ts ++ us)) (new : (k j : ℕ) → Kept (record { next = 1; epoch = 1; upto = 0 }) k (new_client m h j))
    (begins : (s : CommandStart) (k : ℕ) (c : Client m) → c.work ≡ None → Kept s k c → Kept (starts_at m c) k c)
    (turns : (xs : Moves m) (e : EventOf m) (ys : Moves m) → zs ≡ xs ++ Takes e ∷ ys → (n : ℕ) (s : CommandStart) → Kept s n (client m (after m h xs) n) → (t : ClientTurn m) (i : ClientInput m (config m (after m h xs)) n t) → From m (after m h xs) e n t i
    → (happens m (after m h xs) e).told ≡ (after m h xs).told ++ map (told_of m (after m h xs) n s) t.notes → client m (happens m (after m h xs) e) n ≡ t.now → Kept s n t.now × Says (map (told_of m (after m h xs) n s) t.notes)) where
  pub record State (w : World m) : Type 0 where
    pub clients : (k : ℕ) → Kept (noted_of m w k) k (client m w k)
    pub told : Says w.told

  pub kept_of : (w : World m) (n : ℕ) (s : CommandStart) → Noted m w n s → Kept (noted_of m w n) n (client m w n) → Kept s n (client m w n)
  kept_of w n s (Before e) k = subst (λ (z : CommandStart). Kept z n (client m w n)) (sym e) k
  kept_of w n s (Anew idle e) k = subst (λ (z : CommandStart). Kept z n (client m w n)) (sym e) (begins (noted_of m w n) n (client m w n) idle k)

  module _ (xs : Moves m) (e : EventOf m) (ys : Moves m) (split : zs ≡ xs ++ Takes e ∷ ys) where
    abbrev w : World m
    w = after m h xs

    stepped : (v : World m) → v ≡ happens m (after m h xs) e → Speaks m (after m h xs) e v → State (after m h xs) → State v
    stepped v same (Silent t c n) st = record {
      clients = λ k. subst (λ (z : CommandStart). Kept z k (client m v k)) (sym (n k)) (subst (λ (z : Client m). Kept (noted_of m w k) k z) (sym (c k)) (st.clients k));
      told = subst Says (sym t) st.told;
    }
    stepped v same (Speaks' n t s i noted x f b) st = record { clients = λ k. by k (f k); told = subst Says (sym x) (both w.told (map (told_of m w n s) t.notes) st.told turned.1) }
      where
        now : Turns m (after m h xs) v n t s n → client m v n ≡ t.now
        now (inl g) = g.1
        now (inr g) = absurd (g.2 refl)

        turned : Kept s n t.now × Says (map (told_of m (after m h xs) n s) t.notes)
        turned = turns xs e ys split n s (kept_of w n s noted (st.clients n)) t i b (subst (λ (z : World m). z.told ≡ w.told ++ map (told_of m w n s) t.notes) same x) (subst (λ (z : World m). client m z n ≡ t.now) same (now (f n)))

        by : (k : ℕ) → Turns m (after m h xs) v n t s k → Kept (noted_of m v k) k (client m v k)
        by k (inl g) = subst (λ (z : CommandStart). Kept z k (client m v k)) (sym g.2) (subst (λ (z : Client m). Kept s k z) (sym g.1) (subst (λ (z : ℕ). Kept s z t.now) (sym g.0) turned.0))
        by k (inr g) = subst (λ (z : CommandStart). Kept z k (client m v k)) (sym g.1) (subst (λ (z : Client m). Kept (noted_of m w k) k z) (sym g.0) (st.clients k))

  moved : (xs : Moves m) (x : Move m) (rest : Moves m) → zs ≡ xs ++ x ∷ rest → State (after m h xs) → State (after m h (xs ++ x ∷ []))
  moved xs Next rest split st = subst State (sym (then_next m h xs)) (record { clients = st.clients; told = st.told })
  moved xs (Takes e) rest split st = subst State (sym (then_takes m h xs e)) (stepped xs e rest split (happens m (after m h xs) e) refl (speaks m (after m h xs) e) st)

  start_state : State (after m h [])
  unfolding run start
  start_state = record {
    clients = λ k. at_replicate h.clients (record { next = 1; epoch = 1; upto = 0 }) k (record { next = 1; epoch = 1; upto = 0 }) (λ (z : CommandStart). Kept z k (client m (start m h) k)) (here k) (here k);
    told = none;
  }
    where
      here : (k : ℕ) → Kept (record { next = 1; epoch = 1; upto = 0 }) k (client m (start m h) k)
      here k = at_map (new_client m h) (numbers h.clients 0) k (new_client m h k) (λ (c : Client m). Kept (record { next = 1; epoch = 1; upto = 0 }) k c) (λ j. new k j) (new k k)

  state_on : (done xs ys : Moves m) → zs ≡ done ++ (xs ++ ys) → State (after m h done) → State (after m h (done ++ xs))
  state_on done [] ys split st = subst (λ (d : Moves m). State (after m h d)) (sym (nil_right done)) st
  state_on done (x ∷ xs) ys split st = subst (λ (d : Moves m). State (after m h d)) (regroup done (x ∷ []) xs)
      (state_on (done ++ x ∷ []) xs ys (split ∙ sym (regroup done (x ∷ []) (xs ++ ys))) (moved done x (xs ++ ys) split st))

  -- in each world of the run, and at its end
  pub state_at : (xs ys : Moves m) → zs ≡ xs ++ ys → State (after m h xs)
  state_at xs ys split = state_on [] xs ys split start_state

  pub end_state : State (after m h zs)
  end_state = state_at zs [] (sym (nil_right zs))
