-- Why a request isn't given what it asks for: the status and the text that tell it.
use Rattle.std.specs.Prelude.{ℕ, List, ◌++◌, codes, decimal}
use Rattle.access_digest.specs.DenialNames.{denial_name}
use Rattle.access_digest.specs.declared.denial.Denial.{Denial}
use Rattle.access_digest.specs.declared.denial.Denial.TheVariants as denial
use Rattle.epoch_rules.specs.RuleNames.{rule_name}
use Rattle.epochs.specs.FaultNames.{line_fault_text}
use Rattle.http_wire.specs.FaultTexts.{head_fault_text}
use Rattle.http_wire.specs.declared.ending.HeadFault.{HeadFault}
use Rattle.http_wire.specs.declared.ending.HeadFault.TheVariants as head
use Rattle.mseed_header.specs.FaultNames.{record_fault_name}
use Rattle.query_parameters.specs.FaultTexts.{query_fault_text}
use Rattle.centre_desk.specs.declared.fault.Fault.{Fault}
use Rattle.centre_desk.specs.declared.fault.Fault.TheVariants as fault

-- the status of a refused head (RFC 9110, section 15.5; RFC 6585, section 5)
abbrev pub head_status : HeadFault → ℕ
head_status head.TargetTooLong = 414
head_status head.HeadTooLong = 431
head_status head.BadHead = 400
head_status head.TooManyHeaders = 431
head_status head.BadLength = 400
head_status head.NoLength = 411
head_status (head.BodyTooLong n) = 413

-- a client that isn't known may ask again with credentials; one that is known, or that proves nothing, may not
abbrev pub denial_status : Denial → ℕ
denial_status denial.Absent = 401
denial_status denial.Unreadable = 401
denial_status denial.Stale = 401
denial_status denial.UnknownUser = 403
denial_status denial.WrongResponse = 403

abbrev pub status_of : Fault → ℕ
status_of (fault.Head f) = head_status f
status_of fault.NoPath = 404
status_of (fault.NoMethod methods) = 405
status_of fault.BadFront = 400
status_of (fault.Behind asked reached) = 400
status_of (fault.Query f) = 400
status_of (fault.Denied d) = denial_status d
status_of fault.Role = 403
status_of (fault.OtherBody n) = 409
status_of (fault.Gap last) = 409
status_of (fault.Record at f) = 400
status_of (fault.Line line f) = 400
status_of (fault.Broken line rule) = 400
status_of fault.NoData = 404
status_of (fault.ManyBytes bytes most) = 413
status_of (fault.ManyLines lines most) = 413
status_of (fault.FullRecords records most) = 507
status_of (fault.FullBytes bytes most) = 507
status_of fault.Stopped = 503

-- a body may have 1,048,576 bytes
abbrev pub head_text : HeadFault → List ℕ
head_text (head.BodyTooLong n) = codes "body of " ++ decimal n ++ codes " bytes exceeds 1048576"
head_text head.TargetTooLong = head_fault_text head.TargetTooLong
head_text head.HeadTooLong = head_fault_text head.HeadTooLong
head_text head.BadHead = head_fault_text head.BadHead
head_text head.TooManyHeaders = head_fault_text head.TooManyHeaders
head_text head.BadLength = head_fault_text head.BadLength
head_text head.NoLength = head_fault_text head.NoLength

-- what a caller is denied for: who it is, or what it may do
abbrev pub what_failed : Denial → List ℕ
what_failed denial.Absent = codes "authentication"
what_failed denial.Unreadable = codes "authentication"
what_failed denial.Stale = codes "authentication"
what_failed denial.UnknownUser = codes "access"
what_failed denial.WrongResponse = codes "access"

abbrev pub fault_text : Fault → List ℕ
fault_text (fault.Head f) = head_text f
fault_text fault.NoPath = codes "no such path"
fault_text (fault.NoMethod methods) = codes "method not allowed"
fault_text fault.BadFront = codes "bad X-Archive-Front"
fault_text (fault.Behind asked reached) = codes "front " ++ (decimal asked ++ (codes " asked, front " ++ (decimal reached ++ codes " reached")))
fault_text (fault.Query f) = codes "query: " ++ query_fault_text f
fault_text (fault.Denied d) = what_failed d ++ codes ": " ++ denial_name d
fault_text fault.Role = codes "access: Role"
fault_text (fault.OtherBody n) = codes "entry " ++ decimal n ++ codes " has another body"
fault_text (fault.Gap last) = codes "sequence gap after " ++ decimal last
fault_text (fault.Record at f) = codes "record at " ++ decimal at ++ codes ": " ++ record_fault_name f
fault_text (fault.Line line f) = codes "line " ++ decimal line ++ codes ": " ++ line_fault_text f
fault_text (fault.Broken line rule) = codes "line " ++ decimal line ++ codes ": " ++ rule_name rule
fault_text fault.NoData = codes "no data"
fault_text (fault.ManyBytes bytes most) = decimal bytes ++ (codes " bytes exceed " ++ decimal most)
fault_text (fault.ManyLines lines most) = decimal lines ++ (codes " lines exceed " ++ decimal most)
fault_text (fault.FullRecords records most) = decimal records ++ (codes " records exceed " ++ decimal most)
fault_text (fault.FullBytes bytes most) = decimal bytes ++ (codes " archive bytes exceed " ++ decimal most)
fault_text fault.Stopped = codes "archive stopped"

-- the body of a reply that tells a fault
abbrev pub fault_body : Fault → List ℕ
fault_body f = codes "Error " ++ decimal (status_of f) ++ codes ": " ++ fault_text f ++ codes "\n"
