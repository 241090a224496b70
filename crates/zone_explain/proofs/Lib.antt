mod EntryRows
mod FoundFaults
mod Walks
