-- Rounds of ticks from before the votes on: the first drain comes to the votes, or ends the command.
use Rattle.std.proofs.Common.{◌≡◌, ◌⊎◌, ℕ, suc, ◌+◌, ◌*◌, ◌^◌, ◌<◌, ◌≤◌, List, [], ◌∷◌, ◌++◌, None, refl, inl, inr}
use Rattle.tg_base.specs.Clusters.{Header}
use Rattle.tg_base.specs.declared.ids.NodeId.{NodeId}
use Rattle.tg_base.specs.declared.packet.Packet.{Packet}
use Rattle.tg_kind.specs.Meaning.{Meaning}
use Rattle.tg_protocol.specs.Worlds.{World, nodes}
use Rattle.tg_law_finish.proofs.Finish.Nets.{Net, net, client_of, on_in, alike_if, alike_ticked}
use Rattle.tg_law_finish.proofs.Finish.Settles.{Keeps, Ticking}
use Rattle.tg_law_reconfs.proofs.Turns.{First}
use Rattle.tg_law_reconfs.proofs.Rounds.{Folds}
use Rattle.tg_law_reconfs.proofs.Laps.{Ballots, Most, Along, JustSent, YetToTick, End, laps, most_on, Low, low_of, still_none, ends_soon, folds}
use Rattle.tg_law_reconfs.proofs.Early.{EarlyAt, Before, before_step, not_early}
use Rattle.tg_law_reconfs.proofs.EarlyTicks.{EarlyPre, early_ticking}

module _ (m : Meaning) (h : Header) (stopped : List NodeId) (k epoch servers : ℕ) (past : 2 ≤ epoch) (near : epoch < 2 ^ 32) (some : 0 < servers) where
  -- the ballots of the votes that are to begin
  pub record Begins (r : ℕ) : Type 0 where
    pub top : ℕ
    pub small : top + 1 < 2 ^ 32
    pub fits : 1 ≤ top
    pub lasts : 4 ≤ r
    pub room : top + 3 < 2 ^ 32

  abbrev pub early_rest : ℕ → ℕ
  early_rest r = laps m h stopped k epoch servers past near some r + 12 * servers

  abbrev pub first_ballots : (r : ℕ) → Begins r → Ballots m h stopped k epoch servers past near some r
  first_ballots r b = record { top = b.top; round = 1; small = b.small; fits = b.fits; mode = First; lasts = inr (inr (refl, (b.lasts, b.room))) }

  abbrev MostRun' : Net m → Type 0
  MostRun' s = Most m h stopped k epoch servers past near some s

  pub record EarlyAlong (r : ℕ) (s : Net m) (q : List Packet) (n : ℕ) : Type 0 where
    pub begins : Begins r
    pub most : MostRun' s
    pub early : EarlyAt m h stopped k epoch servers begins.top 1 past near begins.small begins.fits refl (early_rest r) s q n

  pub record EarlyYet (r : ℕ) (xs : List NodeId) (s : Net m) (q : List Packet) (n : ℕ) : Type 0 where
    pub begins : Begins r
    pub most : MostRun' s
    pub pre : EarlyPre m h stopped k epoch servers begins.top 1 past near begins.small begins.fits refl (early_rest r) xs s q n

  abbrev Voting' : ℕ → Net m → List Packet → ℕ → Type 0
  Voting' r s q n = Along m h stopped k epoch servers past near some r s q n

  abbrev pub AlongAll : ℕ → Net m → List Packet → ℕ → Type 0
  AlongAll r s q n = Along m h stopped k epoch servers past near some r s q n ⊎ EarlyAlong r s q n

  abbrev pub SentAll : ℕ → Net m → List Packet → ℕ → Type 0
  SentAll r s q n = JustSent m h stopped k epoch servers past near some r s q n ⊎ EarlyAlong r s q n

  abbrev pub YetAll : ℕ → List NodeId → Net m → List Packet → ℕ → Type 0
  YetAll r xs s q n = YetToTick m h stopped k epoch servers past near some r xs s q n ⊎ EarlyYet r xs s q n

  abbrev pub EndAll : Net m → ℕ → Type 0
  EndAll s n = End m h stopped k epoch servers past near some s n

  votes : Folds m k h stopped (Along m h stopped k epoch servers past near some) (JustSent m h stopped k epoch servers past near some) (YetToTick m h stopped k epoch servers past near some) (End m h stopped k epoch servers past near some)
  votes = folds m h stopped k epoch servers past near some

  keeps_all : (r : ℕ) → Keeps m k h stopped (AlongAll r)
  keeps_all r s x q n (inl a) = let y = votes.keeps r s x q n a in record { left = y.left; keeps = inl y.keeps; pays = y.pays }
  keeps_all r s x q n (inr a) =
      let b = a.begins in
      let y = before_step m h stopped k epoch servers b.top 1 past near b.small b.fits refl (early_rest r) s x q n (inr a.early) in
      let most = most_on m h stopped k epoch servers past near some s _ (alike_if m (on_in m stopped s x.to) h s x) a.most in
      record { left = y.left; keeps = by _ _ y.left most y.keeps; pays = y.pays }
    where
      by : (t : Net m) (p : List Packet) (left : ℕ) → MostRun' t → Before m h stopped k epoch servers a.begins.top 1 past near a.begins.small a.begins.fits refl (early_rest r) t p left → AlongAll r t p left
      by t p left most (inl i) = inl (record { ballots = first_ballots r a.begins; most = most; inv = i })
      by t p left most (inr e) = inr (record { begins = a.begins; most = most; early = e })

  ticks_all : (r : ℕ) → Ticking m k h stopped (SentAll r) (YetAll r)
  ticks_all r = record { one = one; other = other; all = all }
    where
      one : (x : NodeId) (xs : List NodeId) (s : Net m) (q : List Packet) (n : ℕ) → YetAll r (x ∷ xs) s q n → on_in m stopped s x ≡ Rattle.std.proofs.Common.true → YetAll r xs (Rattle.tg_law_finish.proofs.Finish.Nets.net_ticked m h s x.num x.role) (q ++ Rattle.tg_law_finish.proofs.Finish.Nets.sent_ticked m h s x.num x.role) n
      one x xs s q n (inl p) on = inl ((votes.ticking r).one x xs s q n p on)
      one x xs s q n (inr p) on = let b = p.begins in inr (record {
        begins = b;
        most = most_on m h stopped k epoch servers past near some s _ (alike_ticked m h s x.num x.role) p.most;
        pre = (early_ticking m h stopped k epoch servers b.top 1 past near b.small b.fits refl (early_rest r)).one x xs s q n p.pre on;
      })

      other : (x : NodeId) (xs : List NodeId) (s : Net m) (q : List Packet) (n : ℕ) → YetAll r (x ∷ xs) s q n → on_in m stopped s x ≡ Rattle.std.proofs.Common.false → YetAll r xs s q n
      other x xs s q n (inl p) off = inl ((votes.ticking r).other x xs s q n p off)
      other x xs s q n (inr p) off = let b = p.begins in inr (record { begins = b; most = p.most; pre = (early_ticking m h stopped k epoch servers b.top 1 past near b.small b.fits refl (early_rest r)).other x xs s q n p.pre off })

      all : (s : Net m) (q : List Packet) (n : ℕ) → YetAll r [] s q n → SentAll r s q n
      all s q n (inl p) = inl ((votes.ticking r).all s q n p)
      all s q n (inr p) = let b = p.begins in inr (record { begins = b; most = p.most; early = (early_ticking m h stopped k epoch servers b.top 1 past near b.small b.fits refl (early_rest r)).all s q n p.pre })

  begins_all : (r : ℕ) (s : Net m) (q : List Packet) (n : ℕ) → SentAll r s q n → AlongAll r s q n
  begins_all r s q n (inl a) = inl (votes.begins r s q n a)
  begins_all r s q n (inr a) = inr a

  never : (r : ℕ) (s : Net m) (n : ℕ) → EarlyAlong r s [] n → ⊥
  never r s n a = let b = a.begins in not_early m h stopped k epoch servers b.top 1 past near b.small b.fits refl (early_rest r) s n a.early

  still_all : (r : ℕ) (s : Net m) (n : ℕ) → SentAll r s [] n → EndAll s n
  still_all r s n (inl a) = votes.still r s n a
  still_all r s n (inr a) = absurd (never r s n a)

  pub none_still : (r : ℕ) (s : Net m) (n : ℕ) → SentAll r s [] n → (client_of m h s k).work ≡ None
  none_still r s n (inl a) = still_none m h stopped k epoch servers past near some r s n a
  none_still r s n (inr a) = absurd (never r s n a)

  again_all : (r : ℕ) (w : World m) (n : ℕ) → AlongAll (suc r) (net m w) [] n → YetAll r (nodes m w) (net m w) [] n
  again_all r w n (inl a) = inl (votes.again r w n a)
  again_all r w n (inr a) = absurd (never (suc r) (net m w) n a)

  ends_all : (s : Net m) (n : ℕ) → AlongAll 0 s [] n → EndAll s n
  ends_all s n (inl a) = votes.ends s n a
  ends_all s n (inr a) = absurd (never 0 s n a)

  pub all_end_soon : (r : ℕ) → r ≤ 2 → (s : Net m) (n : ℕ) → AlongAll r s [] n → EndAll s n
  all_end_soon r soon s n (inl a) = ends_soon m h stopped k epoch servers past near some r soon s n a
  all_end_soon r soon s n (inr a) = absurd (never r s n a)

  pub all_low : (r : ℕ) (s : Net m) (n : ℕ) → AlongAll r s [] n → Low m h stopped k epoch servers past near some s
  all_low r s n (inl a) = low_of m h stopped k epoch servers past near some r s [] n a
  all_low r s n (inr a) = absurd (never r s n a)

  pub all_folds : Folds m k h stopped AlongAll SentAll YetAll EndAll
  all_folds = record { keeps = keeps_all; ticking = ticks_all; begins = begins_all; still = still_all; again = again_all; ends = ends_all }
