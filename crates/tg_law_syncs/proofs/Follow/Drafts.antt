-- A client drafts one checkpoint for each number.
use Rattle.std.proofs.Common.{◌≡◌, ℕ, ◌+◌, ◌<◌, ◌≤◌, [], ◌∷◌, ◌++◌, length, refl, sym, ap, ◌∙◌, subst, arith}
use Rattle.tg_base.specs.Clusters.{Header}
use Rattle.tg_entry.specs.declared.entry.Entry.{Entry}
use Rattle.tg_entry.specs.Format.{tag_of}
use Rattle.tg_kind.specs.Meaning.{Meaning}
use Rattle.tg_protocol.specs.Appending.{Append}
use Rattle.tg_protocol.specs.Clients.{Purpose, Appending, Work, Client, new_client}
use Rattle.tg_protocol.specs.ClientSteps.{ClientTurn, task_in}
use Rattle.tg_protocol.specs.Worlds.{World}
use Rattle.tg_protocol.specs.Runs.{Move, Moves, Next as Counts, Takes, LawfulCommand, Reaches}
use Rattle.tg_law_layouts.specs.Moves.After.{after}
use Rattle.tg_law_layouts.specs.Moves.Configs.{Config, config, client_in}
use Rattle.tg_law_layouts.proofs.Moves.Lists.{at_set}
use Rattle.tg_law_layouts.proofs.Moves.Moves.{AllGive, ClientInput, Given, CasesOf, step_cases_of}
use Rattle.tg_law_walks.proofs.Drafts.Became.{same_some, Holds}
use Rattle.tg_law_walks.proofs.Drafts.Clients as drafts
use Rattle.tg_law_walks.proofs.Drafts.Clients.{State, few_in, hand_grown}
use Rattle.tg_law_walks.proofs.Drafts.Sound.{Kind, OfRecord, OfDecision, OfCheckpoint, Comes', Stays, Begins, TaskComes, HandComes}
use Rattle.tg_law_walks.proofs.Drafts.Written.{state_at, short_at, then_next, then_takes, give_right}
use Rattle.tg_law_walks.proofs.Once.Along.{on_moves}
use Rattle.tg_law_walks.proofs.Once.Reached.{header, give, short}

module _ (m : Meaning) where
  -- what a client has in hand of a checkpoint of this number is this draft, and no further one begins
  abbrev pub Fixed : ℕ → Entry → Client m → Type 0
  Fixed n d c = (n ≤ c.checkpoints) × ((b : Append) → Holds m c b → tag_of b.draft.body ≡ 3 → b.draft.head.number ≡ n → b.draft ≡ d)

  two_tags : {X : Type 0} (a b n : ℕ) → n ≡ a → n ≡ b → (a ≡ b → ⊥) → X
  two_tags a b n e f isnt = absurd (isnt (sym e ∙ f))

  fixed_made : (n : ℕ) (d : Entry) (c x : Client m) → HandComes m c x c.work x.work → Fixed n d c → Fixed n d x
  fixed_made n d c x comes f = (let a = f.0 in let b = (hand_grown m c x c.work x.work comes).checkpoints in omega (arith, a, b), held)
    where
      held : (b : Append) → Holds m x b → tag_of b.draft.body ≡ 3 → b.draft.head.number ≡ n → b.draft ≡ d
      held b o tag number = by (subst (TaskComes m c x c.work) o.holds (subst (HandComes m c x c.work) o.has comes))
        where
          new : Kind m c x.decisions x.checkpoints b.draft → b.draft ≡ d
          new (OfRecord t i j) = two_tags 1 3 (tag_of b.draft.body) t tag (λ e. omega (arith, e))
          new (OfDecision t k i j) = two_tags 2 3 (tag_of b.draft.body) t tag (λ e. omega (arith, e))
          new (OfCheckpoint t k i j) = let a = f.0 in absurd (omega (arith, a, k, number))

          by : Comes' m c x c.work b → b.draft ≡ d
          by (Stays w a y has at e i j) = e ∙ f.1 a (record { work = w; purpose = y; has = has; holds = at }) (ap (λ (z : Entry). tag_of z.body) (sym e) ∙ tag) (ap (λ (z : Entry). z.head.number) (sym e) ∙ number)
          by (Begins none asks kind) = new kind

  called_fixed : (n : ℕ) (d : Entry) (c : Client m) (i : ℕ) → Fixed n d c → Fixed n d (record c { calls = i })
  called_fixed n d c i f = (f.0, λ b o. f.1 b (record { work = o.work; purpose = o.purpose; has = o.has; holds = o.holds }))

module _ (m : Meaning) (h : Header) (zs : Moves m) (reach : Reaches m h zs (after m h zs)) (k n : ℕ) (d : Entry) where
  abbrev pub FixedIn : Moves m → Type 0
  FixedIn xs = Fixed m n d (client_in m (config m (after m h xs)) k)

  module _ (xs ys : Moves m) (split : zs ≡ xs ++ ys) where
    abbrev g : Config m
    g = config m (after m h xs)

    state : State m h (after m h xs)
    state = state_at m h zs (header m h zs reach) (give m h zs reach) (short m h zs reach) xs ys split

    made_fixed : (j : ℕ) (u : ClientTurn m) → Fixed m n d (client_in m g j) → drafts.Turned m (client_in m g j) u → Fixed m n d u.now
    made_fixed j u f x = subst (Fixed m n d) (sym x.now) (called_fixed m n d x.made (x.made.calls + 1) (fixed_made m n d (client_in m g j) x.made x.good.comes f))

    turned : (j : ℕ) (u : ClientTurn m) → (i : ClientInput m g j u) → Given m (LawfulCommand m) g j u i → j < length g.clients → Fixed m n d (client_in m g j) → Fixed m n d u.now
    turned j u i lawful less f =
        let x = drafts.turned m g j u i lawful (few_in m h (header m h zs reach) (after m h xs) (short_at m h zs (header m h zs reach) (give m h zs reach) (short m h zs reach) xs ys split) state j less) (state.clients.sound j) in
        made_fixed j u f x

    cases : Fixed m n d (client_in m g k) → CasesOf m (LawfulCommand m) g (λ e. Fixed m n d (client_in m e k))
    cases f = record {
      idle = f;
      unit = λ u p a less. f;
      layout = λ l p a less. f;
      seqr = λ s t i less. f;
      client = λ j u i lawful less. at_set g.clients j u.now (new_client m g.cluster) (λ l x. l ≡ k → Fixed m n d x) less (λ e. turned j u i lawful less (subst (λ (l : ℕ). Fixed m n d (client_in m g l)) (sym e) f))
          (λ l other e. subst (λ (l : ℕ). Fixed m n d (client_in m g l)) (sym e) f) k refl;
    }

  on_move : (xs : Moves m) (x : Move m) (rest : Moves m) → zs ≡ xs ++ x ∷ rest → FixedIn xs → FixedIn (xs ++ x ∷ [])
  on_move xs Counts rest e f = subst (λ (v : World m). Fixed m n d (client_in m (config m v) k)) (sym (then_next m h xs)) f
  on_move xs (Takes x) rest e f = subst (λ (v : World m). Fixed m n d (client_in m (config m v) k)) (sym (then_takes m h xs x))
      (step_cases_of m (LawfulCommand m) (after m h xs) (λ c. Fixed m n d (client_in m c k)) (cases xs (Takes x ∷ rest) e f) x
      (give_right m xs (Takes x ∷ rest) (subst (λ (ms : Moves m). AllGive m (LawfulCommand m) ms) e (give m h zs reach))).0)

  pub fixed_on : (xs ys rest : Moves m) → zs ≡ xs ++ (ys ++ rest) → FixedIn xs → FixedIn (xs ++ ys)
  fixed_on xs ys rest e f = on_moves m h zs reach FixedIn on_move xs ys rest e f

module _ (m : Meaning) (h : Header) (zs : Moves m) (reach : Reaches m h zs (after m h zs)) (k : ℕ) where
  -- a checkpoint in hand is fixed
  pub fixes : (xs : Moves m) (a : Append) → Holds m (client_in m (config m (after m h xs)) k) a → a.draft.head.number ≤ (client_in m (config m (after m h xs)) k).checkpoints → FixedIn m h zs reach k a.draft.head.number a.draft xs
  fixes xs a o le = (le, λ b p tag number. ap (λ (z : Append). z.draft) (same b a (sym p.holds ∙ (ap (λ (w : Work m). task_in m w.hand) (same_some p.work o.work (sym p.has ∙ o.has)) ∙ o.holds))))
    where
      same : (b a : Append) → {y z : Purpose m} → Appending b y ≡ Appending a z → b ≡ a
      same b a e = cc
