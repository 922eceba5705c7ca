-- What a pair of replicas is over: the element type, the digest, the two channels, with their laws, and the size.
use Rattle.std.proofs.Common.{◌≡◌, ℕ, ◌^◌, ◌<◌, ◌≤◌, true, ◌⊎◌, List, length, Some}
use Rattle.channel.specs.Links.{Fair, Arrives}
use Rattle.element.specs.Model.{Model, Laws}
use Rattle.frame.specs.Frames.{Frame, written, Lawful}
use Rattle.replica.specs.Replicas.{Replica}
use Rattle.replica.specs.Rounds.{State, idle, running}
use Rattle.tree.specs.Sizes.{sized}
use Rattle.tree.specs.Tree.{tree}
use Rattle.tree.specs.Walk.{Passed, Walk}
use Rattle.peers.specs.Pairs.{End, Lines, Pair}

pub record Setting : Type 1 where
  pub R : Type 0
  pub m : Model R
  pub laws : Laws m
  pub h : List ℕ → ℕ
  pub small : (bs : List ℕ) → h bs < 2 ^ 64
  pub L : Lines
  pub fair : (e : End) → Fair (L.link e)
  pub N : ℕ
  pub depth : ℕ
  pub power : N ≡ 2 ^ depth
  pub is_size : sized N ≡ true

module _ (S : Setting) where
  abbrev pub Peers : Type 0
  Peers = Pair S.R S.L

  -- Bytes g may arrive at end e.
  abbrev pub Comes : Peers → End → List ℕ → Type 0
  Comes p e g = Arrives (S.L.link e) (p.toward e) g

  -- From p to q, nothing more may arrive at end e, or nothing but the frame f.
  abbrev pub Fewer : Peers → Peers → End → Type 0
  Fewer p q e = (g : List ℕ) → Comes q e g → Comes p e g

  abbrev pub Adds : Peers → Peers → End → Frame → Type 0
  Adds p q e f = (g : List ℕ) → Comes q e g → Comes p e g ⊎ (g ≡ written f)

  -- The frame f is lawful and may arrive at end e.
  pub record Due (p : Peers) (e : End) (f : Frame) : Type 0 where
    pub lawful : Lawful S.m S.N f
    pub comes : Comes p e (written f)

  -- Some walk is at range i.
  pub record Walks (i : ℕ) : Type 0 where
    pub passed : List Passed
    pub walk : Walk S.depth passed (Some i)

  -- A running round has a number and is at a range.
  abbrev pub Placed : ℕ → State → Type 0
  Placed last idle = Unit {0}
  Placed last (running i c) = (1 ≤ last) × Walks i

  -- A replica of the size, whose digest table is the tree.
  pub record Shaped (s : Replica S.R) : Type 0 where
    pub long : length s.elements ≡ S.N
    pub size : s.progress.size ≡ S.N
    pub digests : s.digests ≡ tree S.m S.h s.elements
    pub numbered : s.progress.last < 2 ^ 32
    pub placed : Placed s.progress.last s.progress.state

  -- Bytes that are a lawful frame's.
  pub record Sent (g : List ℕ) : Type 0 where
    pub frame : Frame
    pub bytes : written frame ≡ g
    pub lawful : Lawful S.m S.N frame

  pub record Sound (p : Peers) : Type 0 where
    pub shaped : (e : End) → Shaped (p.replica e)
    pub sent : (e : End) (g : List ℕ) → Comes p e g → Sent g
