mod Examples
mod PlainTexts
mod StaticInserts
mod StaticLemmas
mod TableFacts
