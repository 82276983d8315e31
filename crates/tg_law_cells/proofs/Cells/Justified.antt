-- An answer in hand is true of the request that is awaited, and what a cell's machine knows by its answers.
use Rattle.std.proofs.Common.{◌≡◌, ◌⊎◌, ℕ, ◌+◌, ◌<◌, ◌≤◌, List, length, Bool, true, false, not, ◌&&◌, refl, sym, ap, ◌∙◌, subst, inl, inr, arith, Some}
use Rattle.std.specs.Prelude.{nat_lt, ◌==◌}
use Rattle.tg_base.specs.declared.cell.Cell.{Cell}
use Rattle.tg_base.specs.declared.cell.Cell.TheVariants.{Junk, Data}
use Rattle.tg_base.specs.declared.ids.NodeId.{NodeId}
use Rattle.tg_base.specs.declared.msg.Msg.{Msg}
use Rattle.tg_base.specs.declared.msg.Msg.TheVariants as msg
use Rattle.tg_base.specs.declared.packet.Out.{Out}
use Rattle.tg_base.specs.declared.packet.Packet.{Packet}
use Rattle.tg_kind.specs.Meaning.{Meaning}
use Rattle.tg_base.specs.Orders.{node_eq}
use Rattle.tg_protocol.specs.Words.{unit_id, client_id, seqr_id, cell_eq}
use Rattle.tg_protocol.specs.Units.{unit_ask}
use Rattle.tg_protocol.specs.Requests.{awaits, Next, Goes, Learns, Ends}
use Rattle.tg_protocol.specs.Replies.{reply}
use Rattle.tg_protocol.specs.Replies as replied
use Rattle.tg_protocol.specs.Cells.{Place, CellWork, Puts, Gets, Fills, Copies, Probes, CellJob, CellEnd, CellTurn, Done, Lost, unit_at, last_unit}
use Rattle.tg_protocol.specs.Sequencers.{seqr_asks}
use Rattle.tg_law_steps.proofs.Machines.Cells as cells
use Rattle.tg_law_layouts.proofs.Moves.Members.{Has, found}
use Rattle.tg_law_layouts.specs.Moves.Configs.{Config, unit_in, client_in, seqr_in}
use Rattle.tg_law_layouts.specs.Moves.Telling.{Claim, claimed}
use Rattle.tg_law_layouts.proofs.Moves.Units.{IsTrue, cell_same}
use Rattle.tg_law_layouts.proofs.Requests.Answered.{Units}
use Rattle.tg_law_layouts.proofs.Requests.Told.{Tells}
use Rattle.tg_law_layouts.proofs.Moves.Clients.{reserved}
use Rattle.tg_law_layouts.proofs.Requests.Numbers.{Numbers}

-- an awaited answer is awaited to a request
pub record Awaited (outs : List Out) (from : NodeId) (rid : ℕ) : Type 0 where
  pub ask : Out
  pub has : Has outs ask
  pub to : ask.to ≡ from
  pub number : ask.rid ≡ rid

same_node : (a b : NodeId) → node_eq a b ≡ true → a ≡ b
unfolding node_eq
same_node a b h = grind arith

both : (a b : Bool) → (a && b) ≡ true → (a ≡ true) × (b ≡ true)
both a b h = grind arith

same_number : (a b : ℕ) → (a == b) ≡ true → a ≡ b
same_number a b h = grind arith

pub awaited_ask : (outs : List Out) (from : NodeId) (rid : ℕ) → awaits outs from rid ≡ true → Awaited outs from rid
awaited_ask outs from rid h =
    let p = found (λ (o : Out). node_eq o.to from && (o.rid == rid)) outs h in
    let t = both (node_eq p.it.to from) (p.it.rid == rid) p.passes in
    record { ask = p.it; has = p.has; to = same_node p.it.to from t.0; number = same_number p.it.rid rid t.1 }

module _ (m : Meaning) where
  -- what an awaited answer of a unit tells
  pub record Hears (c : Config m) (u : ℕ) (o : Out) (a : Packet) : Type 0 where
    pub true : IsTrue (unit_in m c u) (unit_ask o.msg) a.msg
    pub tells : (k : Claim) → claimed (unit_ask o.msg) a.msg ≡ Some k → Tells c.packets u k

  pub heard : (c : Config m) → Numbers m c → Units m c → (k u : ℕ) (o : Out) (a : Packet) → Has (reserved m (client_in m c k)) o → Has c.packets a → a.to ≡ client_id k → a.from ≡ unit_id u → o.to ≡ a.from → o.rid ≡ a.rid
      → Hears c u o a
  heard c n us k u o a open' sent to from asks number =
      let h = us.answered u a sent from in
      let same : o.msg ≡ h.ask.msg = (n.clients k).agree o h.ask open' h.asked (h.from ∙ to) h.request (number ∙ sym h.rid) (asks ∙ sym h.to) in
      record {
        true = subst (λ (x : Msg). IsTrue (unit_in m c u) (unit_ask x) a.msg) (sym same) h.true;
        tells = λ l is. record {
          ask = h.ask;
          answer = a;
          asked = h.asked;
          answered = sent;
          to_unit = h.to ∙ from;
          from_unit = from;
          back = sym h.from;
          number = sym h.rid;
          tells = subst (λ (x : Msg). claimed (unit_ask x) a.msg ≡ Some l) same is;
        };
      }

  -- likewise a sequencer's scan
  pub scan_told : (c : Config m) → Numbers m c → Units m c → (s u : ℕ) (o : Out) (a : Packet) → Has (seqr_asks (seqr_in m c s)) o → Has c.packets a → a.to ≡ seqr_id s → a.from ≡ unit_id u → o.to ≡ a.from → o.rid ≡ a.rid
      → (k : Claim) → claimed (unit_ask o.msg) a.msg ≡ Some k → Tells c.packets u k
  scan_told c n us s u o a open' sent to from asks number k is =
      let h = us.answered u a sent from in
      let same : o.msg ≡ h.ask.msg = (n.seqrs s).agree o h.ask open' h.asked (h.from ∙ to) h.request (number ∙ sym h.rid) (asks ∙ sym h.to) in
      record {
        ask = h.ask;
        answer = a;
        asked = h.asked;
        answered = sent;
        to_unit = h.to ∙ from;
        from_unit = from;
        back = sym h.from;
        number = sym h.rid;
        tells = subst (λ (x : Msg). claimed (unit_ask x) a.msg ≡ Some k) same is;
      }

-- The machine of one cell, among these packets.

module _ (ps : List Packet) where
  -- a unit has told a cell, in an epoch up to this one
  pub record ToldBy (u e p : ℕ) (c : Cell) : Type 0 where
    pub claim : Claim
    pub tells : Tells ps u claim
    pub epoch : claim.epoch ≤ e
    pub pos : claim.pos ≡ p
    pub cell : claim.cell ≡ c

  -- the first units of a chain have
  abbrev pub Upto : Place → Cell → ℕ → Type 0
  Upto a c i = (k : ℕ) → k < i → ToldBy (unit_at a k) a.epoch a.pos c

  abbrev pub WorkOk : Place → CellWork → Type 0
  WorkOk a (Puts r d i) = (0 < i → i < length a.chain) × Upto a (Data d) i
  WorkOk a (Copies r c i) = (0 < i) × (i < length a.chain) × Upto a c i
  WorkOk a w = Unit {0}

  -- what its end tells: all units have told the cell, or the last one has
  abbrev pub EndOk : Place → CellEnd → Type 0
  EndOk a (Done c) = Upto a c (length a.chain) ⊎ ToldBy (last_unit a) a.epoch a.pos c
  EndOk a (Lost c) = ToldBy (unit_at a 0) a.epoch a.pos c
  EndOk a e = Unit {0}

  abbrev pub NextOk : Place → Next CellJob CellEnd → Type 0
  NextOk a (Goes j) = (j.place ≡ a) × WorkOk a j.work
  NextOk a (Learns j) = (j.place ≡ a) × WorkOk a j.work
  NextOk a (Ends e) = EndOk a e

  upto_more : (a : Place) (c : Cell) (i : ℕ) → Upto a c i → ToldBy (unit_at a i) a.epoch a.pos c → Upto a c (i + 1)
  upto_more a c i u t k less = by (last_or k i less)
    where
      last_or : (k i : ℕ) → k < i + 1 → (k < i) ⊎ (k ≡ i)
      last_or k i less = grind arith

      by : (k < i) ⊎ (k ≡ i) → ToldBy (unit_at a k) a.epoch a.pos c
      by (inl l) = u k l
      by (inr e) = subst (λ (j : ℕ). ToldBy (unit_at a j) a.epoch a.pos c) (sym e) t

  less_of : (i n : ℕ) → nat_lt i n ≡ true → i < n
  less_of i n h = grind arith

  not_less : (i n : ℕ) → nat_lt i n ≡ false → n ≤ i
  not_less i n h = grind arith

  upto_less : (a : Place) (c : Cell) (i n : ℕ) → n ≤ i → Upto a c i → Upto a c n
  upto_less a c i n le u k less = u k (omega (arith, le, less))

  -- what an answer y to a request x of unit v claims
  abbrev pub ClaimsOf : ℕ → Msg → Msg → Type 0
  ClaimsOf v x y = (k : Claim) → claimed (unit_ask x) y ≡ Some k → Tells ps v k

  abbrev pub Claims : Place → CellWork → Msg → Type 0
  Claims a (Puts r d i) y = ClaimsOf (unit_at a i) (msg.Write a.epoch a.pos d) y
  Claims a (Gets r) y = ClaimsOf (last_unit a) (msg.Read a.epoch a.pos) y
  Claims a (Fills r) y = ClaimsOf (unit_at a 0) (msg.Fill a.epoch a.pos) y
  Claims a (Copies r c i) y = ClaimsOf (unit_at a i) (msg.Copy a.epoch a.pos c) y
  Claims a (Probes ws) y = Unit {0}

  is_held : (y : Msg) → reply y ≡ replied.IsHeld → y ≡ msg.Held
  unfolding reply
  is_held y h = grind arith

  is_taken : (y : Msg) (c : Cell) → reply y ≡ replied.IsTaken c → y ≡ msg.Taken c
  unfolding reply
  is_taken y c h = grind arith

  -- the unit that was asked has told a cell
  told : (v e p : ℕ) (c : Cell) (x y : Msg) → ClaimsOf v x y → claimed (unit_ask x) y ≡ Some (record { epoch = e; pos = p; cell = c }) → ToldBy v e p c
  told v e p c x y tells is = record { claim = record { epoch = e; pos = p; cell = c }; tells = tells _ is; epoch = omega arith; pos = refl; cell = refl }

  equal_cells : (x c : Cell) → cell_eq x c ≡ true → x ≡ c
  equal_cells x c e = by (cell_same x c)
    where
      by : (cell_eq x c ≡ false) ⊎ (x ≡ c) → x ≡ c
      by (inl f) = absurd (contrary (cell_eq x c) e f)
        where
          contrary : (b : Bool) → b ≡ true → b ≡ false → ⊥
          contrary b e f = cc
      by (inr s) = s

  -- the units up to that to which a cell is copied next have told it
  copied : (u : ℕ) (y : Msg) (next : ℕ) (a : Place) (w : CellWork) (c : Cell) (i : ℕ) → cells.IsCopied u (reply y) next w c i → WorkOk a w → Claims a w y → (0 < i) × Upto a c i
  unfolding claimed unit_ask
  copied u y next a _ _ _ (cells.FillHeld r is) ok h =
      (omega arith, upto_more a Junk 0 (λ k less. absurd (omega (arith, less))) (told (unit_at a 0) a.epoch a.pos Junk (msg.Fill a.epoch a.pos) y h (ap (λ (z : Msg). claimed (unit_ask (msg.Fill a.epoch a.pos)) z) (is_held y is))))
  copied u y next a _ _ _ (cells.FillTaken r c is) ok h =
      (omega arith, upto_more a c 0 (λ k less. absurd (omega (arith, less))) (told (unit_at a 0) a.epoch a.pos c (msg.Fill a.epoch a.pos) y h (ap (λ (z : Msg). claimed (unit_ask (msg.Fill a.epoch a.pos)) z) (is_taken y c is))))
  copied u y next a _ _ _ (cells.CopyHeld r c i is) ok h =
      (omega arith, upto_more a c i ok.2 (told (unit_at a i) a.epoch a.pos c (msg.Copy a.epoch a.pos c) y h (ap (λ (z : Msg). claimed (unit_ask (msg.Copy a.epoch a.pos c)) z) (is_held y is))))
  copied u y next a _ _ _ (cells.CopySame r c i x is e) ok h =
      let t = told (unit_at a i) a.epoch a.pos x (msg.Copy a.epoch a.pos c) y h (ap (λ (z : Msg). claimed (unit_ask (msg.Copy a.epoch a.pos c)) z) (is_taken y x is)) in
      (omega arith, upto_more a c i ok.2 (subst (λ (z : Cell). ToldBy (unit_at a i) a.epoch a.pos z) (equal_cells x c e) t))

  put_told : (y : Msg) (a : Place) (d : List ℕ) (i : ℕ) → reply y ≡ replied.IsHeld → Upto a (Data d) i → ClaimsOf (unit_at a i) (msg.Write a.epoch a.pos d) y → Upto a (Data d) (i + 1)
  unfolding claimed unit_ask
  put_told y a d i is ok h = upto_more a (Data d) i ok (told (unit_at a i) a.epoch a.pos (Data d) (msg.Write a.epoch a.pos d) y h (ap (λ (z : Msg). claimed (unit_ask (msg.Write a.epoch a.pos d)) z) (is_held y is)))

  pub turn_ok : (u : ℕ) (y : Msg) (next : ℕ) (j : CellJob) (t : CellTurn) → cells.Fed u (reply y) next j t → WorkOk j.place j.work → Claims j.place j.work y → NextOk j.place t.to
  unfolding claimed unit_ask
  turn_ok u y next _ _ (cells.PutsOn a r d i is f) ok h = (refl, ((λ past. less_of (i + 1) (length a.chain) f), put_told y a d i is ok.1 h))
  turn_ok u y next _ _ (cells.PutsLast a r d i is f) ok h = inl (upto_less a (Data d) (i + 1) (length a.chain) (not_less (i + 1) (length a.chain) f) (put_told y a d i is ok.1 h))
  turn_ok u y next _ _ (cells.PutRefused a r d i c is f) ok h = subst (λ (k : ℕ). ToldBy (unit_at a k) a.epoch a.pos c) (same_number i 0 (both (i == 0) (not (cell_eq c (Data d))) f).0)
      (told (unit_at a i) a.epoch a.pos c (msg.Write a.epoch a.pos d) y h (ap (λ (z : Msg). claimed (unit_ask (msg.Write a.epoch a.pos d)) z) (is_taken y c is)))
  turn_ok u y next _ _ (cells.ReadsCell a r c is) ok h = inr (told (last_unit a) a.epoch a.pos c (msg.Read a.epoch a.pos) y h (ap (λ (z : Msg). claimed (unit_ask (msg.Read a.epoch a.pos)) z) (is_taken y c is)))
  turn_ok u y next _ _ (cells.ReadsNone a r is) ok h = (refl, tt)
  turn_ok u y next _ _ (cells.CopiesOn a w c i k f) ok h = let g = copied u y next a w c i k ok h in (refl, (g.0, less_of i (length a.chain) f, g.1))
  turn_ok u y next _ _ (cells.CopiesLast a w c i k f) ok h = inl (upto_less a c i (length a.chain) (not_less i (length a.chain) f) (copied u y next a w c i k ok h).1)
  turn_ok u y next _ _ (cells.ProbesOn a ws v vs k e) ok h = (refl, tt)
  turn_ok u y next _ _ (cells.Nothing j) ok h = (refl, ok)
  turn_ok u y next _ _ x ok h = tt
