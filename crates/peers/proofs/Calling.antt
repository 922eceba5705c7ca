-- A call that does what its contract says, at one end of a pair, is an event of the pair.
use Rattle.std.proofs.Common.{◌≡◌, ℕ, List, Ok, Err, Option, Result, sym, refl, ap, ◌∙◌, subst}
use Rattle.channel.specs.Links.{Link}
use Rattle.element.specs.Model.{Model}
use Rattle.element.specs.declared.refusal.Refusal.{Refusal}
use Rattle.replica.specs.Calls.{if_ok, IfAccepted}
use Rattle.replica.specs.Replicas.{Replica}
use Rattle.replica.specs.Steps.{Steps}
use Rattle.replica.specs.declared.answer.Answer.{Answer}
use Rattle.peers.specs.Pairs.{End, other, Lines, lines, Pair, Event, opened, resent, stepped, Does, Called, Happens}
use Rattle.peers.specs.States.{replicas, channels, pair_of, Goes, StepsTo}
use Rattle.peers.specs.declared.pair.Peers.{Peers}
use Rattle.peers.proofs.Declines.{declined_step}

module _ {R : Type 0} (m : Model R) (h : List ℕ → ℕ) (L : Lines) (e : End) (p q : Pair R L) where
  -- the tables that were handed are those of the end
  called : {A : Type 0} (y : Result A Refusal) (v : Event R) → Does m h L v p q (p.replica e) (q.replica e) → ((z : Refusal) → y ≡ Err z → q.replica e ≡ p.replica e)
      → q.replica (other e) ≡ p.replica (other e) → Called m h L e y v p q
  called {A = A} y v w same_tables there = record { handed = p.replica e; leaves = q.replica e; its_record = refl; does = w; here = here y same_tables; there = there }
    where
      here : (y : Result A Refusal) → ((z : Refusal) → y ≡ Err z → q.replica e ≡ p.replica e) → IfAccepted y ((p.replica e ≡ p.replica e) × (q.replica e ≡ q.replica e)) (q.replica e ≡ p.replica e)
      here (Ok a) f = (refl, refl)
      here (Err z) f = f z refl

  -- what is left where it is declined
  declined : {A : Type 0} (y : Result A Refusal) (s t u : Replica R) → t ≡ if_ok y u s → (z : Refusal) → y ≡ Err z → t ≡ s
  declined {A = A} y s t u w z is = w ∙ ap (λ (r : Result A Refusal). if_ok r u s) is

  pub opened_happens : (y : Result (Unit {0}) Refusal) → Does m h L (opened e y) p q (p.replica e) (q.replica e) → q.replica (other e) ≡ p.replica (other e) → Happens m h L (opened e y) p q
  opened_happens y w there = called y (opened e y) w (declined y _ _ _ w.0.after) there

  pub resent_happens : (y : Result (Unit {0}) Refusal) → Does m h L (resent e y) p q (p.replica e) (q.replica e) → q.replica (other e) ≡ p.replica (other e) → Happens m h L (resent e y) p q
  resent_happens y w there = called y (resent e y) w (λ z is. w.1) there

  pub stepped_happens : (got : Option (List ℕ)) (y : Result Answer Refusal) → Does m h L (stepped e got y) p q (p.replica e) (q.replica e) → q.replica (other e) ≡ p.replica (other e) → Happens m h L (stepped e got y) p q
  stepped_happens got y w there = called y (stepped e got y) w (λ z is. (declined_step m h (L.link (other e)) (p.replica e) (q.replica e) _ _ z (L.link e) _ _ got (subst Stepping is w)).replica) there
    where
      Stepping : Result Answer Refusal → Type 0
      Stepping r = Does m h L (stepped e got r) p q (p.replica e) (q.replica e)

-- The same of values of the code, at the end d that a call was told.
module _ {E D A B : Type 0} (a : Link A) (b : Link B) (m : Model E) (f : D → List ℕ → ℕ) (p q : Peers E D A B) (e : End) where
  -- What the call does at end e.
  abbrev At : Event E → Type 0
  At v = Does m (f p.digest) (lines a b) v (pair_of a b p) (pair_of a b q) (replicas a b p e) (replicas a b q e)

  abbrev There : Type 0
  There = replicas a b q (other e) ≡ replicas a b p (other e)

  goes_at : (v : End → Event E) → q.digest ≡ p.digest → At (v e) → There → Happens m (f p.digest) (lines a b) (v e) (pair_of a b p) (pair_of a b q) → {d : End} → d ≡ e → Goes a b m f d (v d) p q
  goes_at v same-digest w there is {d} at = subst (λ (x : End). Goes a b m f x (v x) p q) (sym at) (record { digest = same-digest; does = w; there = there; happens = is })

  pub opened_goes : (y : Result (Unit {0}) Refusal) → q.digest ≡ p.digest → At (opened e y) → There → {d : End} → d ≡ e → Goes a b m f d (opened d y) p q
  opened_goes y same-digest w there = goes_at (λ (z : End). opened z y) same-digest w there (opened_happens m (f p.digest) (lines a b) e (pair_of a b p) (pair_of a b q) y w there)

  pub resent_goes : (y : Result (Unit {0}) Refusal) → q.digest ≡ p.digest → At (resent e y) → There → {d : End} → d ≡ e → Goes a b m f d (resent d y) p q
  resent_goes y same-digest w there = goes_at (λ (z : End). resent z y) same-digest w there (resent_happens m (f p.digest) (lines a b) e (pair_of a b p) (pair_of a b q) y w there)

  pub stepped_goes : (y : Result Answer Refusal) → q.digest ≡ p.digest
      → Steps m (f p.digest) ((lines a b).link (other e)) ((lines a b).link e) (replicas a b p e) (replicas a b q e) (channels a b p e) (channels a b q e) (channels a b p (other e)) (channels a b q (other e)) y
      → There → {d : End} → d ≡ e → StepsTo a b m f d y p q
  stepped_goes y same-digest w there at =
      record { got = w.got; goes = goes_at (λ (z : End). stepped z w.got y) same-digest w.does there (stepped_happens m (f p.digest) (lines a b) e (pair_of a b p) (pair_of a b q) w.got y w.does there) at }
