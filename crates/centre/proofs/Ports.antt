-- The ports of workers that don't serve, and the first of them.
use Rattle.std.proofs.Common.{◌≡◌, ◌≤◌, ◌∙◌, ◌∷◌, List, [], length, map, slice_index_or, slice_set, refl, sym, ap, subst, arith, Option, None, Result}
use Rattle.exact_time.specs.declared.moment.Moment.{Moment}
use Rattle.http_digest.specs.declared.secret.Secret.{Secret}
use Rattle.disk_model.specs.View.{DiskView}
use Rattle.link_ports.specs.Ports.{PortView}
use Rattle.centre_serve.proofs.Whole.{map_map}
use Rattle.streams.specs.View.{StreamView}
use Rattle.command_words.specs.Commands.{Command}
use Rattle.centre.specs.declared.ending.Stop.{Stop}
use Rattle.centre.specs.Given.{World, world}
use Rattle.centre.specs.Table.{IsEnding}

pub ports_as : {W P : Type 0} (view : P → PortView) (port : W → P) (ports : List P) (workers : List W) → ports ≡ map port workers → map view ports ≡ map (λ worker. view (port worker)) workers
ports_as view port ports workers is = ap (map view) is ∙ map_map view port workers

-- a command that began with the ports of the workers
pub with_ports : {D : Type 0} (view : D → DiskView) (secret : Secret) (command : Option Command) (source sink : StreamView) (disk : D) (given : Option (List Moment)) (ports more : List PortView) (after : World D)
    (ending : Result (Unit {0}) Stop) → ports ≡ more → IsEnding view secret command (world source sink disk given None ports) after ending → IsEnding view secret command (world source sink disk given None more) after ending
with_ports view secret command source sink disk given ports more after ending same row = subst (λ (p : List PortView). IsEnding view secret command (world source sink disk given None p) after ending) same row

-- the ports behind the first
abbrev pub behind : {P : Type 0} → List P → List P
behind [] = []
behind (x ∷ xs) = xs

-- the first port and the others, and what they become where it changes
pub had_first : {P V : Type 0} (view : P → V) (ports : List P) (first : P) → 1 ≤ length ports → first ≡ slice_index_or ports 0 first → map view ports ≡ view first ∷ map view (behind ports)
had_first view [] first some is = absurd (omega (arith, some))
had_first view (x ∷ xs) first some is = ap (λ p. view p ∷ map view xs) (sym is)

pub has_first : {P V : Type 0} (view : P → V) (ports : List P) (next : P) → 1 ≤ length ports → map view (slice_set ports 0 next) ≡ view next ∷ map view (behind ports)
has_first view [] next some = absurd (omega (arith, some))
has_first view (x ∷ xs) next some = refl
