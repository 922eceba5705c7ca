-- A channel from which nothing arrives.
use Rattle.std.specs.Prelude.{◌≡◌, [], None}
use Rattle.channel.specs.Links.{Link}

abbrev pub losing : {C : Type 0} → Link C
losing = record {
  may = λ c. [];
  puts = λ c f d. Unit {0};
  takes = λ c o d. o ≡ None;
}
