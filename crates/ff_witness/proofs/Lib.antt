mod OnEdges
mod Witnesses
