-- The fields of a request that decide on its reply.
use Rattle.std.specs.Prelude.{ℕ, List, [], ◌∷◌, map, filter, Option, None, Some, Result, Ok, Err, codes}
use Rattle.http_digest.specs.declared.authorization.Credentials.{Credentials}
use Rattle.http_wire.specs.FieldPairs.{as_pair}
use Rattle.http_wire.specs.Heads.{is_field, length_in}
use Rattle.http_wire.specs.declared.request.Request.{Request}
use Rattle.service_paths.specs.declared.page.Access.{Access}
use Rattle.service_paths.specs.declared.page.Access.TheVariants.{Open, Signed}
use Rattle.centre_desk.specs.declared.fields.Repeated.{Repeated}

-- the values of the fields of a name, in order
abbrev pub values_of : List ℕ → List (List ℕ × List ℕ) → List (List ℕ)
values_of name fields = map (λ field. field.1) (filter (is_field name) fields)

-- the one value, if there is one at all
abbrev pub only_of : List (List ℕ) → Result (Option (List ℕ)) Repeated
only_of [] = Ok None
only_of (value ∷ []) = Ok (Some value)
only_of (value ∷ other ∷ values) = Err record {}

-- how many entries the field X-Archive-Front asks for: none where it is absent, and else the number of its 1 to 18
-- digits; any other value asks for nothing that can be read, and so do two fields
abbrev pub front_said : Result (Option (List ℕ)) Repeated → Option ℕ
front_said (Ok None) = Some 0
front_said (Ok (Some value)) = length_in value
front_said (Err repeated) = None

abbrev pub front_asked : List (List ℕ × List ℕ) → Option ℕ
front_asked fields = front_said (only_of (values_of (codes "x-archive-front") fields))

-- what the field Authorization says; two of them say nothing that can be read
abbrev pub header_said : Result (Option (List ℕ)) Repeated → Option (List ℕ)
header_said (Ok found) = found
header_said (Err repeated) = Some []

abbrev pub header_of : List (List ℕ × List ℕ) → Option (List ℕ)
header_of fields = header_said (only_of (values_of (codes "authorization") fields))

-- what a request says to show who sends it (RFC 2617, section 3.2.2)
abbrev pub credentials_of : Request → Credentials
credentials_of r = record { header = header_of (map as_pair r.headers); method = r.method; target = r.target }

-- the same where the path asks who asks
abbrev pub credentials_by : Access → Request → Option Credentials
credentials_by Open r = None
credentials_by Signed r = Some (credentials_of r)
