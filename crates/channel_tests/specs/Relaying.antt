-- What passing a frame on from one channel to another does.
use Rattle.std.specs.Prelude.{◌≡◌, ℕ, List, Some, None, Option}
use Rattle.channel.specs.Links.{Link}

-- What came is put; where nothing came, the channel stays as it was.
abbrev pub Passes : {D : Type 0} → Link D → Option (List ℕ) → D → D → Type 0
Passes l None c d = d ≡ c
Passes l (Some f) c d = l.puts c f d

-- A take from the channel a, which leaves it as b, and what it answered passed on from c to d.
pub record Relays {C D : Type 0} (l : Link C) (k : Link D) (a b : C) (c d : D) : Type 0 where
  pub got : Option (List ℕ)
  pub taken : l.takes a got b
  pub passed : Passes k got c d
