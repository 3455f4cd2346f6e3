mod Made
mod OneSummary
mod SomeSummary
