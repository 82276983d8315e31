-- Of a run and each world through which it comes: what was decided, told and settled there is so at its end, and what a
-- client hears is true of its append.
use Rattle.std.proofs.Common.{◌≡◌, ℕ, ◌++◌, length, true, refl, sym, subst, inl, inr, Option, Some, ◌≤◌, Contains}
use Rattle.tg_base.specs.Layouts.{Layout}
use Rattle.tg_base.specs.Clusters.{Header, IsHeader}
use Rattle.tg_base.specs.declared.cell.Cell.{Cell}
use Rattle.tg_base.specs.declared.packet.Out.{Out}
use Rattle.tg_base.specs.declared.packet.Packet.{Packet}
use Rattle.tg_kind.specs.Meaning.{Meaning}
use Rattle.tg_protocol.specs.Words.{client_id}
use Rattle.tg_protocol.specs.Layouts.{first_layout, chain_of}
use Rattle.tg_protocol.specs.Requests.{awaits}
use Rattle.tg_protocol.specs.Cells.{place_in, Done}
use Rattle.tg_protocol.specs.Appending.{AppendWork, Asking, Putting, Judging, Append, append_work_asks, append_asks}
use Rattle.tg_protocol.specs.Clients.{Appending, Hand, Doing, Work, Client}
use Rattle.tg_protocol.specs.ClientSteps.{task_asks}
use Rattle.tg_protocol.specs.Worlds.{World, start}
use Rattle.tg_protocol.specs.Runs.{Move, Moves, LawfulMove, LawfulCommand, Reaches, most_steps}
use Rattle.tg_law_layouts.specs.Moves.After.{after}
use Rattle.tg_law_layouts.specs.Moves.Configs.{config, client_in}
use Rattle.tg_law_layouts.proofs.Moves.Always.{lawful_give}
use Rattle.tg_law_layouts.proofs.Moves.Clients.{reserved, work_reserved, hand_reserved}
use Rattle.tg_law_layouts.proofs.Moves.Lists.{contained}
use Rattle.tg_law_layouts.proofs.Moves.Members.{Has, has_left, has_contained}
use Rattle.tg_law_layouts.proofs.Moves.Moves.{AllGive, Comes}
use Rattle.tg_law_layouts.proofs.Requests.Starts.{All, all_hold}
use Rattle.tg_law_layouts.specs.Layouts.Decisions.{IsOfDecided}
use Rattle.tg_law_layouts.proofs.Layouts.Standing.{known_grows}
use Rattle.tg_law_layouts.proofs.Layouts.Deciding.{known, decided_for}
use Rattle.tg_law_cells.specs.Cells.Chains.{ToldUpTo}
use Rattle.tg_law_cells.specs.Cells.Settled.{IsSettled}
use Rattle.tg_law_cells.proofs.Cells.Justified.{ToldBy, EndOk, heard}
use Rattle.tg_law_cells.proofs.Cells.Jobs.{AppendOk, AppendClaims}
use Rattle.tg_law_cells.proofs.Cells.Hands.{HandOk, WorkOk}
use Rattle.tg_law_cells.proofs.Cells.Sent.{Heard, maybe_claims, told_grows}
use Rattle.tg_law_cells.proofs.Cells.Stores.{cells_hold, up_to, first_told}
use Rattle.tg_law_cells.proofs.Cells.Settling.{last_unit_settles}
use Rattle.tg_law_cells.proofs.Entries.Archive.{settled_later}
use Rattle.tg_law_walks.proofs.Drafts.Became.{Holds}
use Rattle.tg_law_walks.proofs.Drafts.Written.{short_at, sent_at}

module _ (m : Meaning) (h : Header) (zs : Moves m) (reach : Reaches m h zs (after m h zs)) where
  pub header : IsHeader h
  header = reach.header

  pub give : AllGive m (LawfulCommand m) zs
  give = lawful_give m (start m h).cluster zs reach.goes.lawful

  pub short : (after m h zs).steps ≤ most_steps
  short = reach.goes.few

  abbrev pub final : World m
  final = after m h zs

  -- a world of the run
  module _ (xs ys : Moves m) (split : zs ≡ xs ++ ys) where
    abbrev pub here : World m
    here = after m h xs

    lawful_at : (x : Move m) → Contains xs x → LawfulMove m (start m h).cluster x
    lawful_at x i = reach.goes.lawful x (subst (λ (ms : Moves m). Contains ms x) (sym split) (contained (xs ++ ys) x (has_left xs ys x (has_contained xs x i))))

    pub reach_at : Reaches m h xs here
    reach_at = record { header = header; goes = record { lawful = lawful_at; is = refl; few = short_at m h zs header give short xs ys split } }

    pub sent_later : (x : Packet) → Has here.packets x → Has final.packets x
    sent_later = sent_at m h zs header give short xs ys split

    pub decided_later : (q : Layout) → IsOfDecided m here q → IsOfDecided m final q
    decided_later q d = decided_for m h zs header give q (known_grows h.layouts (first_layout h) here.packets final.packets sent_later q (known m h xs q.epoch q d).0)

    pub told_later : (u e p : ℕ) (c : Cell) → ToldBy here.packets u e p c → ToldUpTo final.packets u e p c
    told_later u e p c t = up_to final.packets u e p c (told_grows here.packets final.packets sent_later u e p c t)

    pub settles_later : (p : ℕ) (c : Cell) → IsSettled m here p c → IsSettled m final p c
    settles_later p c s = subst (λ (ms : Moves m). IsSettled m (after m h ms) p c) (sym split) (settled_later m h xs ys header (subst (λ (ms : Moves m). AllGive m (LawfulCommand m) ms) split give) p c s)

    -- what a whole chain has told, or its last unit
    pub ends_settle : (q : Layout) → IsOfDecided m here q → (p : ℕ) (c : Cell) → EndOk here.packets (place_in q p) (Done c) → IsSettled m final p c
    ends_settle q d p c (inl f) = settles_later p c (record { layout = q; decided = d; told = first_told here.packets (place_in q p) c (length (chain_of q p)) f })
    ends_settle q d p c (inr t) = settles_later p c (last_unit_settles m h xs here reach_at q p c d (up_to here.packets _ _ _ c t))

    all : All m (config m (after m h xs))
    all = all_hold m h xs

    -- what a client hears of units, of its append
    module _ (k : ℕ) (a : Append) (old : Holds m (client_in m (config m (after m h xs)) k) a) (doing : old.work.hand ≡ Doing (Appending a old.purpose)) where
      abbrev c : Client m
      c = client_in m (config m (after m h xs)) k

      pub append_ok : AppendOk here.packets c.stand a.work
      append_ok = subst (λ (d : Hand m). HandOk m here.packets c.stand d) doing (subst (λ (w : Option (Work m)). WorkOk m here.packets c.stand w) old.has ((cells_hold m h xs).hands k))

      module _ (x : Packet) (comes : Comes m (config m (after m h xs)) x (client_id k)) where
        asked : (o : Out) → Has (append_work_asks c.stand a a.work) o → Has (reserved m c) o
        unfolding task_asks
        asked o g = subst (λ (w : Option (Work m)). Has (work_reserved m c.stand w) o) (sym old.has) (subst (λ (d : Hand m). Has (hand_reserved m c.stand d) o) (sym doing) g)

        heard_of : Heard here.packets x.from x.rid x.msg (append_work_asks c.stand a a.work)
        heard_of o g to number u from l is = (heard m (config m (after m h xs)) all.0.0 all.0.1 k u o x (asked o g) comes.sent comes.to_node from to number).tells l is

        pub claims_of : awaits (append_asks c.stand a) x.from x.rid ≡ true → AppendClaims here.packets c.stand a.work x.msg
        unfolding append_work_asks
        claims_of awaited = by a.work awaited heard_of
          where
            by : (w : AppendWork) → awaits (append_work_asks c.stand a w) x.from x.rid ≡ true → Heard here.packets x.from x.rid x.msg (append_work_asks c.stand a w) → AppendClaims here.packets c.stand w x.msg
            by (Asking r) f g = tt
            by (Putting j) f g = maybe_claims here.packets x.from x.rid x.msg c.stand (Some j) f g
            by (Judging j) f g = maybe_claims here.packets x.from x.rid x.msg c.stand (Some j) f g
