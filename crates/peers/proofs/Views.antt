-- What an event changes, read key by key and frame by frame.
use Rattle.std.proofs.Common.{◌≡◌, ℕ, ◌-◌, ◌*◌, ◌<◌, Bool, true, cond, eqb, ◌⊎◌, List, length, get_or, Some, None, Ok, Option, Result, sym, refl, ap, ◌∙◌, subst, inl, inr, ⊎_elim, arith}
use Rattle.std.proofs.lemmas.List.{get_or-set_same, get_or-set_other}
use Rattle.std.proofs.lemmas.Bool.{cases_eq, eq-eqb, ne_eqb}
use Rattle.element.specs.Tables.{held_at}
use Rattle.element.specs.declared.refusal.Refusal.{Refusal}
use Rattle.frame.specs.Frames.{Frame, compare, same, differ, offer, held, written}
use Rattle.replica.specs.Replicas.{Replica, absorbed, question}
use Rattle.replica.specs.Rounds.{running}
use Rattle.replica.specs.declared.answer.Answer.{Answer}
use Rattle.replica.specs.declared.answer.Answer.TheVariants.{Answered}
use Rattle.tree.specs.Walk.{follow}
use Rattle.peers.specs.Pairs.{End, other, Event, laid, stepped}
use Rattle.peers.specs.Runs.{entered_by, lays_at, puts_question}
use Rattle.peers.proofs.Ends.{same_end_refl}
use Rattle.peers.proofs.Settings.{Setting, Peers, Comes, Fewer, Adds, Due, Sound}
use Rattle.peers.proofs.Acts.{Act, Proceeded, rests, lays, opens, resends, abandons, compares, gives, agrees, differs, receives}

-- The element that a frame brings for key k, of N, as bytes.
abbrev pub Carries : ℕ → Frame → ℕ → List ℕ → Type 0
Carries N (compare r n d) k bs = ⊥
Carries N (same r n) k bs = ⊥
Carries N (differ r n) k bs = ⊥
Carries N (offer r n cs) k bs = (n - N ≡ k) × (cs ≡ bs)
Carries N (held r n cs) k bs = (n - N ≡ k) × (cs ≡ bs)

module _ (S : Setting) where
  abbrev pub at_key : Peers S → End → ℕ → S.R
  at_key p e k = get_or (p.replica e).elements k S.m.bottom

  -- What becomes of key k at end e: nothing, an element laid there, or one that a frame brought.
  pub data Cell (v : Event S.R) (p q : Peers S) (e : End) (k : ℕ) : Type 0 where
    stays : at_key q e k ≡ at_key p e k → ((z : S.R) → entered_by S.m v e k z ≡ z) → Cell v p q e k
    grows : (x : S.R) → at_key q e k ≡ S.m.joined (at_key p e k) x → ((z : S.R) → entered_by S.m v e k z ≡ S.m.joined z x) → lays_at k v ≡ true → Cell v p q e k
    takes : (f : Frame) (bs : List ℕ) (x : S.R) → Due S p e f → Carries S.N f k bs → S.m.parsed bs ≡ Some x
        → at_key q e k ≡ S.m.joined (at_key p e k) x → ((z : S.R) → entered_by S.m v e k z ≡ z) → Cell v p q e k

  -- A frame that end e put.
  pub data News (v : Event S.R) (p q : Peers S) (e : End) (f : Frame) : Type 0 where
    asks : (i c : ℕ) → puts_question e v ≡ true → (q.replica e).progress.state ≡ running i c → f ≡ question S.m S.h (q.replica e) i → News v p q e f
    replies : (r i x : ℕ) → v ≡ stepped e (Some (written (compare r i x))) (Ok Answered) → Due S p e (compare r i x)
        → q.replica e ≡ p.replica e → f ≡ cond (eqb x (get_or (p.replica e).digests i 0)) (same r i) (differ r i) → News v p q e f
    holds_out : (r i : ℕ) (bs : List ℕ) (x : S.R) → Due S p e (offer r i bs) → S.m.parsed bs ≡ Some x
        → at_key q e (i - S.N) ≡ S.m.joined (at_key p e (i - S.N)) x → f ≡ held r i (S.m.written (at_key q e (i - S.N))) → News v p q e f

  -- a key of a table after a join
  pub absorbed_at : (s : Replica S.R) (j : ℕ) (x : S.R) → length s.elements ≡ S.N → j < S.N
      → get_or (absorbed S.m S.h s j x).elements j S.m.bottom ≡ S.m.joined (get_or s.elements j S.m.bottom) x
  absorbed_at s j x l h = let b : j < length s.elements = omega arith in get_or-set_same s.elements j (held_at S.m s.elements j x) S.m.bottom b

  absorbed_off : (s : Replica S.R) (j k : ℕ) (x : S.R) → (k ≡ j → ⊥)
      → get_or (absorbed S.m S.h s j x).elements k S.m.bottom ≡ get_or s.elements k S.m.bottom
  absorbed_off s j k x h = get_or-set_other s.elements j k (held_at S.m s.elements j x) S.m.bottom h

  module _ (v : Event S.R) (p q : Peers S) (e : End) (b : Sound S p) where
    abbrev s : Replica S.R
    s = p.replica e

    -- where the elements are as they were
    kept : (k : ℕ) → (q.replica e).elements ≡ s.elements → ((z : S.R) → entered_by S.m v e k z ≡ z) → Cell v p q e k
    kept k h n = stays (ap (λ (t : List S.R). get_or t k S.m.bottom) h) n

    -- where a frame's element was joined in
    brought : (k i : ℕ) (f : Frame) (bs : List ℕ) (x : S.R) → ((j : ℕ) → j ≡ i - S.N → Carries S.N f j bs) → Due S p e f → S.m.parsed bs ≡ Some x → i - S.N < S.N
        → (q.replica e).elements ≡ (absorbed S.m S.h s (i - S.N) x).elements → ((z : S.R) → entered_by S.m v e k z ≡ z) → Cell v p q e k
    brought k i f bs x carries came is below h n = ⊎_elim on off (cases_eq k (i - S.N))
      where
        on : k ≡ i - S.N → Cell v p q e k
        on o = takes f bs x came (carries k o) is
            (ap (λ (t : List S.R). get_or t k S.m.bottom) h
            ∙ subst (λ (j : ℕ). get_or (absorbed S.m S.h s (i - S.N) x).elements j S.m.bottom ≡ S.m.joined (get_or s.elements j S.m.bottom) x) (sym o)
            (absorbed_at s (i - S.N) x (b.shaped e).long below)) n

        off : (k ≡ i - S.N → ⊥) → Cell v p q e k
        off o = stays (ap (λ (t : List S.R). get_or t k S.m.bottom) h ∙ absorbed_off s (i - S.N) k x o) n

    laid_cell : (k j : ℕ) (x : S.R) → v ≡ laid e j x (Ok tt) → j < S.N → q.replica e ≡ absorbed S.m S.h s j x → Cell v p q e k
    laid_cell k j x is below h = ⊎_elim on off (cases_eq j k)
      where
        enters : (z : S.R) → entered_by S.m v e k z ≡ cond (eqb j k) (S.m.joined z x) z
        enters z = ap (λ (w : Event S.R). entered_by S.m w e k z) is ∙ rw (same_end_refl e)

        on : j ≡ k → Cell v p q e k
        on o = grows x
            (ap (λ (t : Replica S.R). get_or t.elements k S.m.bottom) h
            ∙ subst (λ (i : ℕ). get_or (absorbed S.m S.h s j x).elements i S.m.bottom ≡ S.m.joined (get_or s.elements i S.m.bottom) x) o
            (absorbed_at s j x (b.shaped e).long below))
            (λ z. enters z ∙ ap (λ (c : Bool). cond c (S.m.joined z x) z) (eq-eqb j k o))
            (ap (λ (w : Event S.R). lays_at k w) is ∙ eq-eqb j k o)

        off : (j ≡ k → ⊥) → Cell v p q e k
        off o = stays
            (ap (λ (t : Replica S.R). get_or t.elements k S.m.bottom) h ∙ absorbed_off s j k x (λ z. o (sym z)))
            (λ z. enters z ∙ ap (λ (c : Bool). cond c (S.m.joined z x) z) (ne_eqb j k o))

    -- no step enters anything
    stepped_enters : (got : Option (List ℕ)) (y : Result Answer Refusal) → v ≡ stepped e got y → (k : ℕ) (z : S.R) → entered_by S.m v e k z ≡ z
    stepped_enters got y is k z = ap (λ (w : Event S.R). entered_by S.m w e k z) is

    pub cell : Act S v p q e → (k : ℕ) → Cell v p q e k
    cell (rests h n l) k = kept k (ap (λ (t : Replica S.R). t.elements) h) (n.enters k)
    cell (lays j x is below h l) k = laid_cell k j x is below h
    cell (opens is w o h a) k = kept k (ap (λ (t : Replica S.R). t.elements) h) (λ z. ap (λ (w : Event S.R). entered_by S.m w e k z) is)
    cell (resends i c is w h a) k = kept k (ap (λ (t : Replica S.R). t.elements) h) (λ z. ap (λ (w : Event S.R). entered_by S.m w e k z) is)
    cell (abandons is h l) k = kept k (ap (λ (t : Replica S.R). t.elements) h) (λ z. ap (λ (w : Event S.R). entered_by S.m w e k z) is)
    cell (compares r i x is l h a) k = kept k (ap (λ (t : Replica S.R). t.elements) h) (stepped_enters _ _ is k)
    cell (gives r i bs x is l y h a) k =
        brought k i (offer r i bs) bs x (λ j o. (sym o, refl)) l y (let two = l.lawful.1 in omega arith) (ap (λ (t : Replica S.R). t.elements) h) (stepped_enters _ _ is k)
    cell (agrees r i c w) k = kept k (ap (λ (t : Replica S.R). t.elements) w.after) (stepped_enters _ _ w.event k)
    cell (differs r i c w) k = kept k (ap (λ (t : Replica S.R). t.elements) w.after) (stepped_enters _ _ w.event k)
    cell (receives r i c bs x y w) k =
        brought k i (held r i bs) bs x (λ j o. (sym o, refl)) w.due y (let two = w.due.lawful.1 in omega arith) (ap (λ (t : Replica S.R). t.elements) w.after) (stepped_enters _ _ w.event k)

    -- What may newly arrive at the other end.
    abbrev pub New : List ℕ → Type 0
    New g = (f : Frame) × (g ≡ written f) × News v p q e f

    abbrev Told : List ℕ → Type 0
    Told g = Comes S p (other e) g ⊎ New g

    old : Fewer S p q (other e) → (g : List ℕ) → Comes S q (other e) g → Told g
    old l g c = inl (l g c)

    new : (f : Frame) → News v p q e f → Adds S p q (other e) f → (g : List ℕ) → Comes S q (other e) g → Told g
    new f n a g c = ⊎_elim inl (λ is. inr (f, is, n)) (a g c)

    asking : (i c : ℕ) → puts_question e v ≡ true → (q.replica e).progress.state ≡ running i c → Adds S p q (other e) (question S.m S.h (q.replica e) i) → (g : List ℕ) → Comes S q (other e) g → Told g
    asking i c w h a = new (question S.m S.h (q.replica e) i) (asks i c w h refl) a

    going_on : (f : Frame) (r i c : ℕ) (next : Option ℕ) (t : Replica S.R) → Proceeded S v p q e f r i c next t → (g : List ℕ) → Comes S q (other e) g → Told g
    going_on f r i c None t w = old w.goes
    going_on f r i c (Some j) t w =
        asking j _ (ap (puts_question e) w.event ∙ same_end_refl e) (ap (λ (u : Replica S.R). u.progress.state) w.after) w.goes

    pub told : Act S v p q e → (g : List ℕ) → Comes S q (other e) g → Comes S p (other e) g ⊎ New g
    told (rests h n l) = old l
    told (lays j x is below h l) = old l
    told (opens is w o h a) = asking 1 0 (ap (puts_question e) is ∙ same_end_refl e) (ap (λ (u : Replica S.R). u.progress.state) h) a
    told (resends i c is w h a) = asking i c (ap (puts_question e) is ∙ same_end_refl e) (ap (λ (u : Replica S.R). u.progress.state) h ∙ w) a
    told (abandons is h l) = old l
    told (compares r i x is l h a) = new _ (replies r i x is l h refl) a
    told (gives r i bs x is l y h a) =
        let below : i - S.N < S.N = let two = l.lawful.1 in omega arith in
        let now-there = ap (λ (t : Replica S.R). get_or t.elements (i - S.N) S.m.bottom) h ∙ absorbed_at s (i - S.N) x (b.shaped e).long below in
        new _ (holds_out r i bs x l y now-there (ap (λ (z : S.R). held r i (S.m.written z)) (sym now-there))) a
    told (agrees r i c w) = going_on (same r i) r i c (follow i) _ w
    told (differs r i c w) = going_on (differ r i) r i c (Some (2 * i)) _ w
    told (receives r i c bs x y w) = going_on (held r i bs) r i c (follow i) _ w
