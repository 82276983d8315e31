-- What a client says for which no command waits.
use Rattle.std.proofs.Common.{◌≡◌, ℕ, List, [], ◌∷◌, Option, Some, None, Result, refl, sym, ap, subst, ◌∙◌}
use Rattle.std.specs.Prelude.{IfOk}
use Rattle.tg_base.specs.declared.fault.NoMemory.{NoMemory}
use Rattle.tg_base.specs.declared.ids.Oid.{Oid}
use Rattle.tg_base.specs.declared.packet.Out.{Out}
use Rattle.tg_kind.specs.Meaning.{Meaning}
use Rattle.tg_model.specs.Kinds.{CommandOf, NoteOf}
use Rattle.tg_protocol.specs.Views.{View}
use Rattle.tg_protocol.specs.Clients.{Client, Work}
use Rattle.tg_protocol.specs.Answers.{moved, syncs}
use Rattle.tg_protocol.specs.ClientSteps.{client_asks, new_work, works_on}
use Rattle.tg_client_state.specs.Tasks.{WorkOf, KeepsMaybe}
use Rattle.tg_client_state.specs.States.{StateOf, MovedOf, client_of, rest_of, KeepsViewIf, KeepsClient, KeepsMoved}
use Rattle.tg_client_state.proofs.Waiting.{stayed}
use Rattle.tg_client_tasks.specs.Idle.{idle}

module _ (m : Meaning) where
  pub said : (s : StateOf m) (v : Option (View m)) (n old : ℕ) (notes : List (NoteOf m)) (sends : List Out) → sends ≡ [] → KeepsViewIf m s.view v →
      KeepsMoved m old (record { state = s; work = None; sends = sends; notes = notes }) (moved m (idle m s v n) notes)
  unfolding client_asks
  said s v n old notes sends hs hv = record {
    now = record { is = refl; view = hv; work = tt; drawn = tt; fit = tt };
    sends = hs;
    notes = refl;
  }

  -- no command waits

  none-kept : (w : Option (Work m)) → KeepsMaybe m None w → w ≡ None
  none-kept None h = refl
  none-kept (Some w) h = absurd h

  pub is_idle : (s : StateOf m) (c : Client m) → KeepsClient m s None c → c ≡ idle m s c.view c.played
  is_idle s c h = h.is ∙ ap (λ (w : Option (Work m)). client_of m s (record { view = c.view; played = c.played; work = w })) (none-kept c.work h.work)

  pub no_work : (s : StateOf m) (c : Client m) → KeepsClient m s None c → c.work ≡ None
  no_work s c h = none-kept c.work h.work

  pub next_is : (s : StateOf m) (w : Option (WorkOf m)) (c : Client m) → KeepsClient m s w c → c.next ≡ s.rids.next
  next_is s w c h = ap (λ (d : Client m). d.next) h.is

  -- a client that is as it was
  pub as_was : (s : StateOf m) (w : Option (WorkOf m)) (c : Client m) (notes told : List (NoteOf m)) (sends : List Out) → sends ≡ [] → notes ≡ told → KeepsClient m s w c →
      KeepsMoved m s.rids.next (record { state = s; work = w; sends = sends; notes = notes }) (moved m c told)
  as_was s w c notes told sends hs hn h = record {
    now = h;
    sends = hs ∙ (stayed m s w c [] [] refl refl h).sends;
    notes = hn;
  }

  -- a command waits for a sync over the hosted streams
  pub worked : (s : StateOf m) (v : Option (View m)) (n : ℕ) (x : CommandOf m) (os : List Oid) (r : Result (MovedOf m) NoMemory) → os ≡ s.hosted →
      IfOk r (λ y. KeepsMoved m s.rids.next y (syncs m (idle m s v n) (new_work m x) os)) → IfOk r (λ y. KeepsMoved m s.rids.next y (works_on m (idle m s v n) x))
  worked s v n x os r e h = subst (λ (l : List Oid). IfOk r (λ y. KeepsMoved m s.rids.next y (syncs m (idle m s v n) (new_work m x) l))) e h
