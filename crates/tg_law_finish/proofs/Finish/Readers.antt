-- A client whose command reads: a sync, the walks, and its answer.
use Rattle.std.proofs.Common.{◌≡◌, ℕ, suc, ◌+◌, ◌<◌, ◌≤◌, List, [], ◌∷◌, length, true, refl, sym, subst, arith, Some, None, Option}
use Rattle.tg_base.specs.Layouts.{Layout}
use Rattle.tg_base.specs.declared.cell.Cell.{Cell}
use Rattle.tg_base.specs.declared.ids.Oid.{Oid}
use Rattle.tg_kind.specs.Meaning.{Meaning}
use Rattle.tg_model.specs.declared.command.Command.TheVariants as cmd
use Rattle.tg_model.specs.declared.play.PlayEnd.{PlayEnd}
use Rattle.tg_model.specs.Kinds.{CommandOf}
use Rattle.tg_protocol.specs.Words.{cell_at}
use Rattle.tg_protocol.specs.Requests.{Goes, Learns, Ends}
use Rattle.tg_protocol.specs.Cells.{Gets, place_in, works}
use Rattle.tg_protocol.specs.Walking.{Walk, WalkTurn, walk_start, with_job}
use Rattle.tg_protocol.specs.Views.{View, Entries, Play, play}
use Rattle.tg_protocol.specs.Clients.{Walking, Work, Client, all_entries}
use Rattle.tg_protocol.specs.Answers.{Moved, moved, on_ask, on_fate, on_ask_at, walked_for, walked, own_view, play_target, with_view, answer_by, played_on}
use Rattle.tg_protocol.specs.ClientSteps.{walks, start_walk, goes_on, lends, after_turn, takes_back, found_by, lasts_of}
use Rattle.tg_law_finish.specs.Finish.Commands.{is_ask}
use Rattle.tg_law_finish.proofs.Finish.Trails.{Low, TrailLow, Walked, WalkReads, WalkEnds, walk_goes}

module _ (m : Meaning) where
  pub record Answers (x : Moved m) : Type 0 where
    pub none : x.now.work ≡ None
    pub besides : x.besides ≡ []

  ask_over : (c : Client m) (w : Work m) (o : Oid) (q : m.ask) (v : View m) (came : PlayEnd) → Answers (on_ask m c w o q v came)
  ask_over c w o q v came = record { none = grind arith; besides = grind arith }

  fate_over : (c : Client m) (w : Work m) (es : Entries) (v : View m) (p : ℕ) (came : PlayEnd) → Answers (on_fate m c w es v p came)
  fate_over c w es v p came = record { none = grind arith; besides = grind arith }

  past_over : (c : Client m) (w : Work m) (p : ℕ) (o : Oid) (q : m.ask) → Answers (on_ask_at m c w p o q)
  past_over c w p o q = record { none = grind arith; besides = grind arith }

  played_over : (c : Client m) (w : Work m) (es : Entries) (p : Play m) (x : CommandOf m) → w.command ≡ x → Answers (answer_by m c w es p x) → Answers (answer_by m c w es p w.command)
  played_over c w es p x e a = subst (λ y. Answers (answer_by m c w es p y)) (sym e) a

  ask_played : (c : Client m) (w : Work m) (es : Entries) (p : Play m) (o : Oid) (q : m.ask) → w.command ≡ cmd.Ask o q → Answers (played_on m c w es p)
  ask_played c w es p o q e = played_over (with_view m c p.view) w es p (cmd.Ask o q) e (ask_over (with_view m c p.view) w o q p.view p.came)

  fate_played : (c : Client m) (w : Work m) (es : Entries) (p : Play m) (at : ℕ) → w.command ≡ cmd.Fate at → Answers (played_on m c w es p)
  fate_played c w es p at e = played_over (with_view m c p.view) w es p (cmd.Fate at) e (fate_over (with_view m c p.view) w es p.view at p.came)

  abbrev own_play : Client m → Work m → Play m
  own_play c w = play m (own_view m c w (all_entries m c w c.hosted)) (all_entries m c w c.hosted) (play_target m w w.command)

  walked_over : (c : Client m) (w : Work m) (x : CommandOf m) → w.command ≡ x → is_ask m x ≡ true → Answers (walked_for m c w x)
  unfolding is_ask
  walked_over c w (cmd.Ask o q) e t = ask_played c w (all_entries m c w c.hosted) (own_play c w) o q e
  walked_over c w (cmd.Fate p) e t = fate_played c w (all_entries m c w c.hosted) (own_play c w) p e
  walked_over c w (cmd.AskAt p o q) e t = past_over c w p o q
  walked_over c w (cmd.Host o) e t = absurd cc
  walked_over c w cmd.Begin e t = absurd cc
  walked_over c w (cmd.Put o op) e t = absurd cc
  walked_over c w cmd.End e t = absurd cc
  walked_over c w cmd.Drop e t = absurd cc
  walked_over c w (cmd.Decide p) e t = absurd cc
  walked_over c w (cmd.Checkpoint o) e t = absurd cc
  walked_over c w (cmd.Forget o n) e t = absurd cc
  walked_over c w cmd.Trim e t = absurd cc
  walked_over c w (cmd.Reconf x) e t = absurd cc
  walked_over c w (cmd.Copy u r s) e t = absurd cc
  walked_over c w (cmd.Rescue p) e t = absurd cc

  pub all_walked : (c : Client m) (w : Work m) → is_ask m w.command ≡ true → Answers (walked m c w)
  unfolding walked
  all_walked c w t = walked_over c w w.command refl t

-- such commands, with so many streams, go on in such a way once all is walked
pub record Way (m : Meaning) : Type 1 where
  pub Is : CommandOf m → ℕ → Type 0
  pub GoesOn : Client m → Moved m → Type 0
  pub on : (c : Client m) (w : Work m) → Is w.command (length w.oids) → GoesOn c (walked m c w)

-- an ask is answered
abbrev pub asking_way : (m : Meaning) → Way m
asking_way m = record { Is = λ x n. is_ask m x ≡ true; GoesOn = λ c x. Answers m x; on = λ c w ask. all_walked m c w ask }

-- whether a view is kept
abbrev pub seen : {m : Meaning} → Option (View m) → ℕ
seen None = 0
seen (Some v) = 1

module _ (m : Meaning) (way : Way m) (p : Layout) (tail most : ℕ) where
  -- what a command walks by: the last positions are below the tail, of so many streams at most
  pub record Walks (w : Work m) : Type 0 where
    pub asks : way.Is w.command (length w.oids)
    pub lasts : (o : Oid) → Low p tail (lasts_of m w o)
    pub few : length w.oids ≤ most

  -- the walks come to an unknown position, with fewer streams left, or the command goes on; g is the trim that was known before the sync, and v tells whether a view is kept
  pub data WalksTo (cells : List (ℕ × Cell)) (next g v streams n : ℕ) : Moved m → Type 0 where
    ToOver : (c : Client m) (x : Moved m) → c.next ≡ next → c.stand ≡ p → way.GoesOn c x → WalksTo cells next g v streams n x
    ToReads : (c : Client m) (w : Work m) (wk : Walk) (os : List Oid) (q : ℕ) → c.next ≡ next + 1 → c.stand ≡ p → seen c.view ≡ v → w.gone_before ≡ g → length w.oids ≡ streams → q < tail → cell_at cells q ≡ None → wk.cells ≡ cells → TrailLow p tail wk.trail → Walks w
        → suc (length os) ≤ n → WalksTo cells next g v streams n (goes_on m c w (Walking (with_job wk (works (place_in p q) (Gets next))) os) [])

  by_walk : (c : Client m) (w : Work m) (o : Oid) (os : List Oid) (t : WalkTurn) (n : ℕ) → c.stand ≡ p → Walks w → suc (length os) ≤ n → Walked p tail c.cells c.next t
      → ((d : Client m) (v : Work m) → d.stand ≡ p → seen d.view ≡ seen c.view → v.gone_before ≡ w.gone_before → length v.oids ≡ length w.oids → Walks v → WalksTo d.cells d.next (w.gone_before) (seen c.view) (length w.oids) n (walks m os d v))
      → WalksTo c.cells c.next (w.gone_before) (seen c.view) (length w.oids) n (elim (t.to) as (λ _. Moved m) [
        | Goes x ↦ goes_on m (lends m (after_turn m c t)) w (Walking x os) []
        | Learns x ↦ moved m c []
        | Ends x ↦ walks m os (takes_back m c x) (found_by m w o x)
      ])
  by_walk c w o os t n stand ws few (WalkReads wk q less none same low) rest = ToReads (lends m (record c { next = c.next + 1 })) w wk os q refl stand refl refl refl less none same low ws few
  by_walk c w o os t n stand ws few (WalkEnds x same gone) rest =
      let d = takes_back m c x in
      subst (λ cells. WalksTo cells c.next (w.gone_before) (seen c.view) (length w.oids) n (walks m os d (found_by m w o x))) same (rest d (found_by m w o x) stand refl refl refl (record { asks = ws.asks; lasts = ws.lasts; few = ws.few }))

  start_low : (c : Client m) (w : Work m) (o : Oid) → c.stand ≡ p → Walks w → Walked p tail c.cells c.next (start_walk m c w o)
  unfolding walk_start
  start_low c w o stand ws = subst (λ q. Walked p tail c.cells c.next (walk_start q o (lasts_of m w o) w.lo c.cells c.next)) (sym stand) (walk_goes p tail _ c.next _ c.cells refl (record { pointers = ws.lasts o; last = omega arith }))

  walks_from : (os : List Oid) (c : Client m) (w : Work m) (g v streams n : ℕ) → c.stand ≡ p → w.gone_before ≡ g → seen c.view ≡ v → length w.oids ≡ streams → Walks w → length os ≤ n → WalksTo c.cells c.next g v streams n (walks m os c w)
  unfolding walks
  walks_from [] c w g v streams n stand gone view many ws few = ToOver c _ refl stand (way.on c w ws.asks)
  walks_from (o ∷ os) c w g v streams n stand gone view many ws few =
      subst (λ s. WalksTo c.cells c.next g v s n (walks m (o ∷ os) c w)) many (subst (λ y. WalksTo c.cells c.next g y (length w.oids) n (walks m (o ∷ os) c w)) view (subst (λ y. WalksTo c.cells c.next y (seen c.view) (length w.oids) n (walks m (o ∷ os) c w)) gone
      (by_walk c w o os (start_walk m c w o) n stand ws few (start_low c w o stand ws) (λ d x e f y z k. walks_from os d x (w.gone_before) (seen c.view) (length w.oids) n e y f z k (omega (arith, few))))))

  pub walks_to : (os : List Oid) (c : Client m) (w : Work m) → c.stand ≡ p → Walks w → WalksTo c.cells c.next w.gone_before (seen c.view) (length w.oids) (length os) (walks m os c w)
  walks_to os c w stand ws = walks_from os c w w.gone_before (seen c.view) (length w.oids) (length os) stand refl refl refl ws (omega arith)
