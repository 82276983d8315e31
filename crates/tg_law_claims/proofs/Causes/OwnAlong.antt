-- Along a run: at each position that a client has as its own stands a commit record of the log.
use Rattle.std.proofs.Common.{◌≡◌, ℕ, List, [], ◌∷◌, ◌++◌, Bool, true, false, refl, sym, ap, ◌∙◌, subst, Option, Some, None}
use Rattle.std.specs.Prelude.{Contains, ◌==◌}
use Rattle.tg_base.specs.Clusters.{Header}
use Rattle.tg_base.specs.Orders.{node_eq, role_number}
use Rattle.tg_base.specs.declared.cell.Cell.{Cell}
use Rattle.tg_base.specs.declared.ids.NodeId.{NodeId}
use Rattle.tg_base.specs.declared.marks.StreamLink.{StreamLink}
use Rattle.tg_base.specs.declared.packet.Packet.{Packet}
use Rattle.tg_entry.specs.Records.{linked}
use Rattle.tg_entry.specs.declared.entry.Entry.{Entry}
use Rattle.tg_kind.specs.Meaning.{Meaning}
use Rattle.tg_model.specs.Kinds.{EventOf}
use Rattle.tg_protocol.specs.Words.{client_id}
use Rattle.tg_protocol.specs.Entries.{is_commit}
use Rattle.tg_protocol.specs.Replies.{reply}
use Rattle.tg_protocol.specs.Clients.{Task, Syncing, Walking, Appending, Trimming, Copying', Reconfiguring, Work, Client, new_client}
use Rattle.tg_protocol.specs.ClientSteps.{ClientTurn, task_in, knows, given_up_if}
use Rattle.tg_protocol.specs.Holding.{append_by}
use Rattle.tg_protocol.specs.Walked.{Walked, walked_in}
use Rattle.tg_protocol.specs.Worlds.{World, client, runs}
use Rattle.tg_protocol.specs.Runs.{Moves, Takes, Reaches}
use Rattle.tg_law_layouts.specs.Moves.After.{after}
use Rattle.tg_law_layouts.specs.Moves.Configs.{config}
use Rattle.tg_law_layouts.proofs.Moves.Members.{Has}
use Rattle.tg_law_layouts.proofs.Moves.Moves.{ClientInput, Commanded, Hears', Ticks'}
use Rattle.tg_law_replies.specs.History.Worlds.{entries_in}
use Rattle.tg_law_replies.specs.Replies.Ended.{AppendsEnd, work_ends, handed_ends, packet_ends, ended_in}
use Rattle.tg_law_replies.proofs.History.Cells.{logs_rise}
use Rattle.tg_law_replies.proofs.History.Ledger.{one_entry}
use Rattle.tg_law_replies.proofs.History.Members.{has_contained, number_same, both_and}
use Rattle.tg_law_replies.proofs.Replies.Carried.{WalksBy}
use Rattle.tg_law_replies.proofs.Replies.Turns.{LandsBy}
use Rattle.tg_law_headline.proofs.Leaves.Walks.{feed_by}
use Rattle.tg_law_headline.proofs.Leaves.Ended.{Stays, Tells, stays_there}
use Rattle.tg_law_headline.proofs.Alike.Speaks.{Delivered, From}
use Rattle.tg_law_claims.proofs.Causes.Owning.{Fits, command_fits, deliver_fits, tick_fits}
use Rattle.tg_law_headline.proofs.Alike.Running.{state_at as run_at}

-- What is a client's own stays so through the walks of a step.
module _ (m : Meaning) (w : World m) (k : ℕ) where
  abbrev SameOwn : Client m → Work m → Type 0
  SameOwn c v = c.own ≡ (client m w k).own

  own_stays : Stays m (λ q b. Unit {0}) SameOwn
  own_stays = record {
    turned = λ c v n g i. i;
    taken = λ c v o x f i. i;
    known = λ c v s t ls lo i. known c v s t i;
    given = λ c v b i. given c v b i;
    over = λ c v i. i;
    stood = λ c v q less i. i;
  }
    where
      known : (c : Client m) (v : Work m) (s : Option (ℕ × Cell)) (t : ℕ) → SameOwn c v → (knows m c s).own ≡ (client m w k).own
      known c v None t i = i
      known c v (Some s) t i = i

      given : (c : Client m) (v : Work m) (b : Bool) → SameOwn c v → (given_up_if m b c).own ≡ (client m w k).own
      given c v true i = i
      given c v false i = i

  own_walks : (v : Work m) (t : Task m) → WalksBy m SameOwn (client m w k) v t
  own_walks v (Syncing s) = refl
  own_walks v (Walking j os) = refl
  own_walks v (Appending a y) = tt
  own_walks v (Trimming t) = tt
  own_walks v (Copying' y) = tt
  own_walks v (Reconfiguring r) = tt

  own_hears : (x : Packet) → Has w.packets x → x.to ≡ client_id k → Tells m (λ q b. Unit {0}) SameOwn (client m w k) x.from x.rid (reply x.msg)
  own_hears x sent to v (Walking j os) is doing a = feed_by (λ b. Unit {0}) (client m w k).stand j x.from.num (reply x.msg) (client m w k).next (λ i b job ends. tt)
  own_hears x sent to v (Syncing s) is doing a = tt
  own_hears x sent to v (Appending s y) is doing a = tt
  own_hears x sent to v (Trimming t) is doing a = tt
  own_hears x sent to v (Copying' y) is doing a = tt
  own_hears x sent to v (Reconfiguring r) is doing a = tt

  pub own_waits : (e : EventOf m) (y : Walked m) → walked_in m w e k ≡ Some y → y.client.own ≡ (client m w k).own
  own_waits e y is = stays_there m (λ q b. Unit {0}) SameOwn own_stays w k (λ v works. own_walks v (task_in m v.hand)) own_hears e y is

module _ (m : Meaning) (h : Header) (zs : Moves m) (r : Reaches m h zs (after m h zs)) (ends : AppendsEnd m h zs (after m h zs)) where
  -- a commit record stands there
  abbrev pub Mine : ℕ → Type 0
  Mine p = (d : Entry) × Contains (entries_in m (after m h zs)) (p, d) × (is_commit d ≡ true)

  pub mine : (p : ℕ) (d : Entry) (links : List StreamLink) → is_commit d ≡ true → Contains (entries_in m (after m h zs)) (p, linked d links) → Mine p
  mine p d links commit at = (linked d links, at, commit)

  abbrev FitsAt : Client m → Type 0
  FitsAt c = Fits m (entries_in m (after m h zs)) Mine mine c

  module _ (xs : Moves m) (e : EventOf m) (ys : Moves m) (split : zs ≡ xs ++ Takes e ∷ ys) where
    node_itself : (a : NodeId) → node_eq a a ≡ true
    unfolding node_eq
    node_itself a = both_and (role_number a.role == role_number a.role) (a.num == a.num) (number_same (role_number a.role) (role_number a.role) refl) (number_same a.num a.num refl)

    ended_here : (n : ℕ) (p : Packet) → p.to ≡ client_id n → Delivered m (after m h xs) e n p → ended_in m (after m h xs) e n ≡ work_ends m (client m (after m h xs) n) (client m (after m h xs) n).work p.from p.rid (reply p.msg)
    ended_here n p to d =
        ap (λ (y : EventOf m). ended_in m (after m h xs) y n) d.event
        ∙ (ap (λ (o : Option Packet). packet_ends m (after m h xs) n o) d.got
        ∙ ap (λ (b : Bool). handed_ends m b (client m (after m h xs) n) p)
        (both_and (node_eq p.to (client_id n)) (runs m (after m h xs) p.to) (subst (λ (a : NodeId). node_eq a (client_id n) ≡ true) (sym to) (node_itself (client_id n))) d.on))

    lands : (n : ℕ) (p : Packet) → p.to ≡ client_id n → Delivered m (after m h xs) e n p
        → LandsBy m (entries_in m (after m h zs)) (append_by m (client m (after m h xs) n).work) (work_ends m (client m (after m h xs) n) (client m (after m h xs) n).work p.from p.rid (reply p.msg))
    lands n p to d a x is at = ends xs ys e split n a x is (ended_here n p to d ∙ at)

    turned : (n : ℕ) → FitsAt (client m (after m h xs) n) → (t : ClientTurn m) → (i : ClientInput m (config m (after m h xs)) n t) → From m (after m h xs) e n t i → FitsAt t.now
    turned n fits t (Commanded x) b = command_fits m (entries_in m (after m h zs)) Mine mine (client m (after m h xs) n) x fits
    turned n fits t (Hears' p i) b = deliver_fits m (entries_in m (after m h zs)) Mine mine (client m (after m h xs) n) p.from p.rid p.msg fits (lands n p i.to_node b)
    turned n fits t Ticks' b = tick_fits m (entries_in m (after m h zs)) Mine mine (client m (after m h xs) n) fits

  new_fits : (j : ℕ) → FitsAt (new_client m h j)
  unfolding new_client
  new_fits j = record { own = λ p i. absurd (has_contained [] p i); work = tt }

  fits_at : (xs ys : Moves m) → zs ≡ xs ++ ys → (k : ℕ) → FitsAt (client m (after m h xs) k)
  fits_at xs ys split = (run_at m h zs (λ s k c. FitsAt c) (λ ts. Unit {0}) tt (λ ts us a b. tt) (λ k j. new_fits j) (λ s k c idle fits. fits) (λ xs e ys split n s fits t i f told now. (turned xs e ys split n fits t i f, tt)) xs ys split).clients

  -- the client's own records, where it has walked
  pub own_record : (xs ys : Moves m) (e : EventOf m) → zs ≡ xs ++ Takes e ∷ ys → (k : ℕ) (y : Walked m) → walked_in m (after m h xs) e k ≡ Some y → (q : ℕ) → Contains y.client.own q → Mine q
  own_record xs ys e split k y is q i = (fits_at xs (Takes e ∷ ys) split k).own q (subst (λ (ps : List ℕ). Contains ps q) (own_waits m (after m h xs) k e y is) i)

  -- .. and what stands there is one
  pub owns_commit : (xs ys : Moves m) (e : EventOf m) → zs ≡ xs ++ Takes e ∷ ys → (k : ℕ) (y : Walked m) → walked_in m (after m h xs) e k ≡ Some y → (q : ℕ) (d : Entry) → Contains y.client.own q → Contains (entries_in m (after m h zs)) (q, d) → is_commit d ≡ true
  owns_commit xs ys e split k y is q d i at =
      let has : Mine q = own_record xs ys e split k y is q i in
      let same : d ≡ has.0 = one_entry 0 (entries_in m (after m h zs)) q d has.0 (logs_rise m (after m h zs)) (has_contained (entries_in m (after m h zs)) (q, d) at) (has_contained (entries_in m (after m h zs)) (q, has.0) has.1) in
      subst (λ (z : Entry). is_commit z ≡ true) (sym same) has.2
